-- The parts of a record that are enums, each in words of its own: what a word says, and the word of a case.
-- A code that no case has says the first case. Assumes nothing.
use Rattle.std.specs.Prelude.{ℕ, Bool, cond, eqb, None, Option, Some}
use Rattle.frame_check.specs.declared.CheckMode.{CheckMode}
use Rattle.frame_check.specs.declared.CheckMode.TheVariants.{Validated, NotValidated, Ignored, Optional}
use Rattle.settings.specs.declared.domain_settings.Role.{Role}
use Rattle.settings.specs.declared.domain_settings.Role.TheVariants.{Absent, Slave, Master}
use Rattle.settings.specs.declared.domain_settings.Security.{Security}
use Rattle.settings.specs.declared.domain_settings.Security.TheVariants.{Plain, Secured}
use Rattle.domain.specs.declared.LastSync.{LastSync}
use Rattle.domain.specs.declared.LastSync.TheVariants.{Unknown, Seen}
use Rattle.domain.specs.declared.Sending.{Sending}
use Rattle.domain.specs.declared.Sending.TheVariants.{Never, Open as sent, Confirmed}
use Rattle.record_words.specs.declared.parts.LeapWords.{LeapWords}
use Rattle.record_words.specs.declared.parts.HeldWords.{HeldWords}
use Rattle.record_words.specs.declared.parts.AtWord.{AtWord}
use Rattle.record_words.specs.declared.parts.SendingWords.{SendingWords}
use Rattle.record_words.specs.Packed.{low_of, byte4, byte5, byte6, byte7, packed_of}
use Rattle.clock.specs.declared.base.TimeBase.{TimeBase}
use Rattle.domain.specs.declared.Leap.{Leap}
use Rattle.domain.specs.declared.Leap.TheVariants.{Future, Past}
use Rattle.domain.specs.declared.Pair.{Pair}

abbrev pub role_of : ℕ → Role
role_of word = cond (eqb (byte4 word) 1) Slave (cond (eqb (byte4 word) 2) Master Absent)

abbrev pub role_code : Role → ℕ
role_code Absent = 0
role_code Slave = 1
role_code Master = 2

abbrev pub mode_of : ℕ → CheckMode
mode_of word =
    cond (eqb (byte5 word) 1) NotValidated
    (cond (eqb (byte5 word) 2) Ignored (cond (eqb (byte5 word) 3) Optional Validated))

abbrev pub mode_code : CheckMode → ℕ
mode_code Validated = 0
mode_code NotValidated = 1
mode_code Ignored = 2
mode_code Optional = 3

abbrev pub security_of : ℕ → Security
security_of word = cond (eqb (byte7 word) 1) Secured Plain

abbrev pub security_code : Security → ℕ
security_code Plain = 0
security_code Secured = 1

abbrev pub flag_code : Bool → ℕ
flag_code flag = cond flag 1 0

abbrev pub leap_of : ℕ → Option Leap
leap_of word =
    cond (eqb (byte6 word) 1) (Some (Future (byte7 word))) (cond (eqb (byte6 word) 2) (Some (Past (byte7 word))) None)

abbrev pub leap_words : Option Leap → LeapWords
leap_words None = record { code = 0; run = 0 }
leap_words (Some (Future run)) = record { code = 1; run = run }
leap_words (Some (Past run)) = record { code = 2; run = run }

abbrev pub held_of : (seconds at word : ℕ) → Option TimeBase
held_of seconds at word =
    cond (eqb (byte4 word) 1)
    (Some (record { time = record { 0 = seconds; 1 = low_of word }; at = record { 0 = at } }))
    None

abbrev pub held_words : Option TimeBase → HeldWords
held_words None = record { seconds = 0; at = 0; nanoseconds = 0; code = 0 }
held_words (Some base) =
    record { seconds = base.time.0; at = base.at.0; nanoseconds = base.time.1; code = 1 }

abbrev pub pairing_of : (at word : ℕ) → Option Pair
pairing_of at word =
    cond (eqb (byte7 word) 1)
    (Some
    (record {
      at = record { 0 = at };
      seconds = low_of word;
      counter = byte4 word;
      user0 = byte5 word;
      user1 = byte6 word;
    }))
    None

abbrev pub pairing_words : Option Pair → AtWord
pairing_words None = record { at = 0; word = 0 }
pairing_words (Some p) =
    record { at = p.at.0; word = packed_of p.seconds p.counter p.user0 p.user1 1 }

abbrev pub last_of : (at word : ℕ) → LastSync
last_of at word = cond (eqb (byte6 word) 1) (Seen (byte4 word) (byte5 word) (record { 0 = at })) Unknown

abbrev pub last_words : LastSync → AtWord
last_words Unknown = record { at = 0; word = 0 }
last_words (Seen counter row at) = record { at = at.0; word = packed_of 0 counter row 1 0 }

abbrev pub sending_of : (at word nanoseconds : ℕ) → Sending
sending_of at word nanoseconds =
    cond (eqb (byte5 word) 1) (sent (byte4 word) (low_of word) (low_of nanoseconds) (record { 0 = at }))
    (cond (eqb (byte5 word) 2) (Confirmed (record { 0 = at })) Never)

abbrev pub sending_words : Sending → SendingWords
sending_words Never = record { at = 0; seconds = 0; nanoseconds = 0; counter = 0; code = 0 }
sending_words (sent counter seconds nanoseconds at) =
    record { at = at.0; seconds = seconds; nanoseconds = nanoseconds; counter = counter; code = 1 }
sending_words (Confirmed at) = record { at = at.0; seconds = 0; nanoseconds = 0; counter = 0; code = 2 }
