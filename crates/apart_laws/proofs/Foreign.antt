-- A call on a record that it is not for. No contract cites this file.
--   bad-reading      at a bad reading a frame is refused by 1 on every record
--   wrong_length     of another length than 8 by 2
--   no_such_type     of no type of the four by 3
--   another_record   one of another domain than the record's by 4
--                    and each leaves the record and the kept reading as they were
--   foreign_done     any call that is not for a record: what it answers does not depend on the record, which stays
-- Assumes nothing.
use Rattle.std.specs.Prelude.{Err, Ok, Result, ⊤}
use Prim.Native.Nat.{ℕ}
use mathlib.Core.Path.{◌≡◌, refl}
use mathlib.Core.Bool.{Bool, true, false, cond, ◌&&◌}
use mathlib.Core.List.{List, []}
use lib.Dec.{eqb}
use lib.ListN.{length}
use borrow.Author.Tests.{ne_eqb}
use Rattle.clock.specs.declared.reading.VirtualLocalTime.{VirtualLocalTime}
use Rattle.frame.specs.declared.values.Frame.{Frame}
use Rattle.frame.specs.Values.{domain_in}
use Rattle.frame_read.specs.Read.{read_of}
use Rattle.refusal.specs.declared.Refusal.{Refusal}
use Rattle.refusal.specs.declared.Refusal.TheVariants.{Reading, Length, FrameType, Domain as another}
use Rattle.settings.specs.declared.domain_settings.Role.{Role}
use Rattle.domain.specs.declared.Domain.{Domain}
use Rattle.admission.specs.declared.Needed.{Needed}
use Rattle.admission.specs.declared.Needed.TheVariants.{Master, Either}
use Rattle.admission.specs.Reading.{is_good_reading}
use Rattle.admission.specs.Admission.{is_in, admitted_of}
use Rattle.admission.specs.FrameAdmission.{read_for}
use Rattle.call_frame.specs.FrameCall.{frame_call_as, frame_call_of}
use Rattle.node_call.specs.declared.CallAnswer.TheVariants as told
use Rattle.apart_laws.specs.Apart.{OneCall, frame, read, set, confirm, Reply, Done, done_on}
use Rattle.domain.specs.declared.DomainCall.{DomainCall}
use Rattle.frame_read.specs.declared.NoFrame.{NoFrame}
use Rattle.frame_read.specs.declared.NoFrame.TheVariants.{LengthNot8, NoSuchType}
use Rattle.refusal.specs.Numbers.{Outcome}
use Rattle.slave_answer.specs.declared.Taken.{Taken}

-- ---- a refused frame
abbrev refused_on : Domain → (kept : VirtualLocalTime) → Refusal → DomainCall (Outcome Taken)
refused_on d kept refusal = record { answer = Err refusal; domain = d; kept = kept }

-- ---- by what the bytes are: not for a record of this number
abbrev pub NotFor : Result Frame NoFrame → (number : ℕ) → Type 0
NotFor (Ok values) number = domain_in values ≡ number → ⊥
NotFor (Err LengthNot8) number = Unit {0}
NotFor (Err NoSuchType) number = Unit {0}

abbrev by_read : Result Frame NoFrame → Refusal
by_read (Ok values) = another
by_read (Err LengthNot8) = Length
by_read (Err NoSuchType) = FrameType

module _ (d : Domain) (kept t : VirtualLocalTime) (bytes : List ℕ) where
  abbrev At : Bool → Result Frame NoFrame → DomainCall (Outcome Taken)
  At good r = frame_call_as (cond good (read_for r d.number d.settings.role) (Err Reading)) d kept t bytes

  read_refused : (r : Result Frame NoFrame) → NotFor r d.number → At true r ≡ refused_on d kept (by_read r)
  read_refused (Ok values) n = rw (ne_eqb (domain_in values) d.number n)
  read_refused (Err LengthNot8) n = refl
  read_refused (Err NoSuchType) n = refl

  frame_refused :
      (good : Bool) (r : Result Frame NoFrame) → NotFor r d.number → At good r ≡ refused_on d kept (cond good (by_read r) Reading)
  frame_refused true r n = read_refused r n
  frame_refused false r n = refl

  pub reading_is_bad : is_good_reading kept t ≡ false → frame_call_of d kept t bytes ≡ refused_on d kept Reading
  reading_is_bad e = rw e

  module _ (good : is_good_reading kept t ≡ true) where
    pub wrong_length : (length bytes ≡ 8 → ⊥) → frame_call_of d kept t bytes ≡ refused_on d kept Length
    wrong_length n = rw (good, ne_eqb (length bytes) 8 n)

    pub no_such_type : read_of bytes ≡ Err NoSuchType → frame_call_of d kept t bytes ≡ refused_on d kept FrameType
    no_such_type e = rw (good, e)

    pub another_record :
        (values : Frame) → read_of bytes ≡ Ok values → (domain_in values ≡ d.number → ⊥) →
        frame_call_of d kept t bytes ≡ refused_on d kept another
    another_record values e n = rw (good, e) (read_refused (Ok values) n)

-- ---- a call of another domain
abbrev by_domain : Bool → Refusal
by_domain good = cond good another Reading

not_for_lem :
    (kept t : VirtualLocalTime) (own : ℕ) (role : Role) (asked : ℕ) (needed : Needed) → (asked ≡ own → ⊥) →
    admitted_of kept t own role asked needed ≡ Err (by_domain (is_good_reading kept t))
not_for_lem kept t own role asked needed n = go (is_good_reading kept t)
  where
    go :
        (good : Bool) →
        ◌≡◌ {A = Outcome ⊤} (cond good (cond (eqb asked own && is_in role needed) (Ok tt) (Err another)) (Err Reading))
        (Err (by_domain good))
    go true = rw (ne_eqb asked own n)
    go false = refl

-- ---- any call
abbrev pub Foreign : OneCall → Domain → Type 0
Foreign (frame t bytes) d = NotFor (read_of bytes) d.number
Foreign (read domain t) d = domain ≡ d.number → ⊥
Foreign (set domain t s ns) d = domain ≡ d.number → ⊥
Foreign (confirm domain t counter out) d = domain ≡ d.number → ⊥

abbrev pub foreign_reply : (kept : VirtualLocalTime) → OneCall → Reply
foreign_reply kept (frame t bytes) =
    record {
      answer = told.Frame (Err (cond (is_good_reading kept t) (by_read (read_of bytes)) Reading));
      out = [];
    }
foreign_reply kept (read domain t) =
    record { answer = told.Read (Err (by_domain (is_good_reading kept t))); out = [] }
foreign_reply kept (set domain t s ns) =
    record { answer = told.Set (Err (by_domain (is_good_reading kept t))); out = [] }
foreign_reply kept (confirm domain t counter out) =
    record { answer = told.Confirm (Err (by_domain (is_good_reading kept t))); out = out }

abbrev pub left_by : Domain → (kept : VirtualLocalTime) → OneCall → Done
left_by d kept c = record { reply = foreign_reply kept c; domain = d; kept = kept }

pub foreign_done :
    (d : Domain) (kept : VirtualLocalTime) (c : OneCall) → Foreign c d → done_on d kept c ≡ left_by d kept c
foreign_done d kept (frame t bytes) n = rw (frame_refused d kept t bytes (is_good_reading kept t) (read_of bytes) n)
foreign_done d kept (read domain t) n = rw (not_for_lem kept t d.number d.settings.role domain Either n)
foreign_done d kept (set domain t s ns) n = rw (not_for_lem kept t d.number d.settings.role domain Master n)
foreign_done d kept (confirm domain t counter out) n =
    rw (not_for_lem kept t d.number d.settings.role domain Master n)
