-- A read, a set and a confirmation of a node in words. Assumes nothing.
use Rattle.std.specs.Prelude.{ℕ, ◌%◌, ◌≡◌, cond, List, [], ◌∷◌, eqb, length, set, Err, Ok, ⊤}
use Rattle.settings.specs.Node.{places}
use Rattle.call_read.specs.declared.Shown.{Shown}
use Rattle.call_read.specs.ReadCall.{read_call_of}
use Rattle.call_set.specs.SetCall.{set_call_of}
use Rattle.call_confirm.specs.ConfirmCall.{confirm_call_of, confirm_bytes}
use Rattle.record_words.specs.Packed.{packed_of}
use Rattle.node_words.specs.Words.{kept_of, record_of, base_put, sent_put}
use Rattle.domain.specs.declared.DomainCall.{DomainCall}
use Rattle.frame.specs.declared.values.Fup.{Fup}
use Rattle.refusal.specs.Numbers.{Outcome, outcome_number}

-- ---- A read: what it shows, in three words; refused, the lent words stay.
abbrev pub read_by : List ℕ → (domain t : ℕ) → Outcome Shown
read_by words domain t = read_call_of (record_of words (domain % places)) (kept_of words) domain (record { 0 = t })

abbrev pub shown_words : Shown → List ℕ
shown_words s =
    s.time.0
    ∷ packed_of s.time.1 s.status s.user.0 s.user.1 s.user.2
    ∷ s.updates
    ∷ []

abbrev pub shown_in : Outcome Shown → (before : List ℕ) → List ℕ
shown_in (Ok s) before = shown_words s
shown_in (Err refusal) before = before

pub record ReadIn (words : List ℕ) (domain t : ℕ) (before : List ℕ) (r : ℕ) (shown : List ℕ) : Type 0 where
  pub number : r ≡ outcome_number (read_by words domain t)
  pub shows : shown ≡ shown_in (read_by words domain t) before

-- ---- A set: the base's words, and the kept reading.
abbrev pub set_by : List ℕ → (domain t seconds nanoseconds : ℕ) → DomainCall (Outcome ⊤)
set_by words domain t s ns =
    set_call_of (record_of words (domain % places)) (kept_of words) domain (record { 0 = t }) s ns

abbrev pub set_words : List ℕ → (domain : ℕ) → DomainCall (Outcome ⊤) → List ℕ
set_words words domain call =
    cond (eqb (outcome_number call.answer) 0)
    (base_put (set words 0 call.kept.0) (domain % places) call.domain) words

pub record SetIn
    (words : List ℕ) (domain t seconds nanoseconds : ℕ) (r : ℕ) (after : List ℕ) : Type 0 where
  pub number : r ≡ outcome_number (set_by words domain t seconds nanoseconds).answer
  pub words_after : after ≡ set_words words domain (set_by words domain t seconds nanoseconds)

-- ---- A confirmation: the words of the SYNC sent last, and the kept reading; and the FUP's bytes.
abbrev pub confirm_by : List ℕ → (domain t counter room : ℕ) → DomainCall (Outcome Fup)
confirm_by words domain t counter room =
    confirm_call_of (record_of words (domain % places)) (kept_of words) domain (record { 0 = t }) counter room

abbrev pub confirm_words : List ℕ → (domain : ℕ) → DomainCall (Outcome Fup) → List ℕ
confirm_words words domain call =
    cond (eqb (outcome_number call.answer) 0)
    (sent_put (set words 0 call.kept.0) (domain % places) call.domain) words

pub record ConfirmedBy
    (words : List ℕ) (domain t counter : ℕ) (before : List ℕ)
    (r : ℕ) (after : List ℕ) (out : List ℕ) : Type 0 where
  pub number : r ≡ outcome_number (confirm_by words domain t counter (length before)).answer
  pub words_after : after ≡ confirm_words words domain (confirm_by words domain t counter (length before))
  pub bytes :
      out
      ≡ confirm_bytes (confirm_by words domain t counter (length before)).answer
      (record_of words (domain % places)).settings.ids before
