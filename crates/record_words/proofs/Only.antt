-- No two results satisfy the promise of F, as `F_only` for each public function F. No contract cites
-- this file.
-- Assumes nothing.
use Rattle.std.specs.Prelude.{Option}
use Prim.Native.Nat.{ℕ}
use mathlib.Core.Path.{◌≡◌}
use mathlib.Core.List.{List}
use Rattle.promise.specs.Only.{OnlyOne}
use Rattle.promise.proofs.Laws.{equation_only}
use Rattle.settings.specs.declared.domain_settings.DomainSettings.{DomainSettings}
use Rattle.settings.specs.declared.domain_settings.Role.{Role}
use Rattle.domain.specs.declared.Domain.{Domain}
use Rattle.domain.specs.declared.Sending.{Sending}
use Rattle.record_words.specs.Packed.{packed_of}
use Rattle.record_words.specs.Parts.{role_of, held_of, sending_of}
use Rattle.record_words.specs.Record.{settings_of, number_of, domain_of, settings_words, state_words}
use Rattle.record_words.specs.Given.{given_of}
use Rattle.clock.specs.declared.base.TimeBase.{TimeBase}

pub packed_only : (low a b c d : ℕ) → OnlyOne (λ (r : ℕ). r ≡ packed_of low a b c d)
packed_only low a b c d = equation_only _

pub role_of_only : (word : ℕ) → OnlyOne (λ (r : Role). r ≡ role_of word)
role_of_only word = equation_only _

pub held_of_only : (seconds at word : ℕ) → OnlyOne (λ (r : Option TimeBase). r ≡ held_of seconds at word)
held_of_only seconds at word = equation_only _

pub sending_of_only : (at word nanoseconds : ℕ) → OnlyOne (λ (r : Sending). r ≡ sending_of at word nanoseconds)
sending_of_only at word nanoseconds = equation_only _

pub settings_of_only : (words : List ℕ) → OnlyOne (λ (r : DomainSettings). r ≡ settings_of words)
settings_of_only words = equation_only _

pub number_of_only : (words : List ℕ) → OnlyOne (λ (r : ℕ). r ≡ number_of words)
number_of_only words = equation_only _

pub domain_of_only :
    (settings : DomainSettings) (number : ℕ) (words : List ℕ) →
    OnlyOne (λ (r : Domain). r ≡ domain_of settings number words)
domain_of_only settings number words = equation_only _

pub settings_words_only :
    (settings : DomainSettings) (number : ℕ) → OnlyOne (λ (r : List ℕ). r ≡ settings_words settings number)
settings_words_only settings number = equation_only _

pub state_words_only : (domain : Domain) → OnlyOne (λ (r : List ℕ). r ≡ state_words domain)
state_words_only domain = equation_only _

pub given_of_only : (words : List ℕ) → OnlyOne (λ (r : DomainSettings). r ≡ given_of words)
given_of_only words = equation_only _
