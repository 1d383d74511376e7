-- Paper 02, request 5: the exceptions to "state stays", on every node. No contract cites this file.
--   frames_only     a call answered 6 or 15 is a frame call
--   six_keeps       a frame under 6 sets the row to 0 if it is not complete, and changes nothing else
--   fifteen_keeps   a frame under 15 becomes the last SYNC and joins the row, its reading is kept, and nothing else
--                   changes
--   h_zero_keeps    where H is 0 a refused call leaves the node as it was, and none is answered 15
-- Assumes nothing.
use Rattle.std.specs.Prelude.{None, Ok, Option, Result, Some}
use Prim.Native.Nat.{ℕ}
use mathlib.Core.Path.{◌≡◌, refl, sym, ap, ◌∙◌}
use mathlib.Core.Bool.{Bool, true, false, false≢true, ◌||◌}
use mathlib.Core.Logic.{◌⊎◌, inl, inr}
use mathlib.Core.List.{List, [], ◌∷◌}
use native.Mathlib.Omega.{arith}
use lib.Dec.{eqb}
use lib.ListN.{length, get_or}
use borrow.Author.Tests.{eqb-true, eqb-false}
use Rattle.promise.proofs.Tests.{either, neither}
use Rattle.clock.specs.declared.reading.VirtualLocalTime.{VirtualLocalTime}
use Rattle.frame.specs.declared.values.Protection.{Protection}
use Rattle.frame.specs.declared.values.Protection.TheVariants.{Plain, Secured}
use Rattle.frame.specs.declared.values.Fup.{Fup}
use Rattle.frame.specs.declared.values.Frame.{Frame}
use Rattle.frame.specs.declared.values.Frame.TheVariants.{Sync as sync, Fup as fup}
use Rattle.frame.specs.Types.{type_of}
use Rattle.frame.specs.Values.{domain_in}
use Rattle.frame_read.specs.Read.{sync_in, fup_in, values_of}
use Rattle.frame_check.specs.Check.{is_taken}
use Rattle.admission.specs.declared.Needed.TheVariants.{Slave}
use Rattle.admission.specs.Reading.{is_good_reading}
use Rattle.admission.specs.Admission.{is_for}
use Rattle.admission.specs.FrameAdmission.{read_for}
use Rattle.domain.specs.declared.Domain.{Domain}
use Rattle.domain.specs.Fields.{with_last}
use Rattle.slave_counter.proofs.Laws.{last_stays}
use Rattle.slave_sync.specs.Sync.{sync_of}
use Rattle.slave_sync.proofs.Laws.{six_keeps_sync, fifteen_keeps_sync}
use Rattle.slave_frame.specs.Step.{kind_of}
use Rattle.call_frame.specs.FrameCall.{frame_kept, frame_stepped, frame_call_as, frame_call_of}
use Rattle.node.specs.declared.Node.{Node}
use Rattle.node.specs.Store.{stored_in}
use Rattle.node.specs.Frame.{addressed_by}
use Rattle.node_call.specs.Calls.{Call, frame, read, set, cycle, confirm, node_after, answer_to, number_in}
use Rattle.node_laws.specs.Tests.{Tests, first_of, kind_tests, tests_of}
use Rattle.node_laws.specs.Refused.{IsRefused}
use Rattle.node_laws.specs.Excepted.{named, after_six, JoinedRow, IsExcepted, IsFrame, HZero}
use Rattle.node_laws.proofs.Laws.{stored_same, refusal_keeps}
use Rattle.node_laws.proofs.Order.{kind_order, order}
use Rattle.domain.specs.declared.DomainCall.{DomainCall}
use Rattle.domain.specs.declared.DomainStep.{DomainStep}
use Rattle.frame.specs.declared.types.FrameType.{FrameType}
use Rattle.frame.specs.declared.types.FrameType.TheVariants.{PlainFup, PlainSync, SecuredFup, SecuredSync}
use Rattle.frame_read.specs.declared.NoFrame.{NoFrame}
use Rattle.refusal.specs.Numbers.{Outcome, outcome_number}
use Rattle.slave_answer.specs.declared.Taken.{Taken}

-- ---- 6 and 15 are the numbers of a SYNC, and no other test has them

abbrev is_excepted : (number : ℕ) → Bool
is_excepted number = eqb number 6 || eqb number 15

abbrev has_excepted : Tests → Bool
has_excepted [] = false
has_excepted (x ∷ rest) = is_excepted x.0 || has_excepted rest

other_tests : (tests : Tests) → has_excepted tests ≡ false → is_excepted (first_of tests) ≡ false
other_tests [] e = refl
other_tests (x ∷ rest) e =
    let none = neither (is_excepted x.0) (has_excepted rest) e in
    either (λ (number : ℕ). is_excepted number ≡ false) x.1 none.0 (other_tests rest none.1)

other_number :
    (n : Node) (c : Call) → has_excepted (tests_of n c) ≡ false → is_excepted (number_in (answer_to n c)) ≡ false
other_number n c e = ap is_excepted (order n c) ∙ other_tests (tests_of n c) e

excluded : (number : ℕ) → is_excepted number ≡ false → (number ≡ 6) ⊎ (number ≡ 15) → ⊥
excluded number none (inl e) = false≢true (sym none ∙ ap is_excepted e)
excluded number none (inr e) = false≢true (sym none ∙ ap is_excepted e)

pub frames_only : (n : Node) (c : Call) → IsExcepted n c → IsFrame c
frames_only n (frame t bytes) e = tt
frames_only n (read domain t) e = excluded _ (other_number n (read domain t) refl) e
frames_only n (set domain t s ns) e = excluded _ (other_number n (set domain t s ns) refl) e
frames_only n (cycle t out) e = excluded _ (other_number n (cycle t out) refl) e
frames_only n (confirm domain t counter out) e = excluded _ (other_number n (confirm domain t counter out) refl) e

-- ---- a frame under one of them is a SYNC, with the counter in byte 2

not_so : {A : Type 0} → false ≡ true → A
not_so e = absurd (false≢true e)

module _ (d : Domain) (kept t : VirtualLocalTime) (bytes : List ℕ) (P : DomainCall (Outcome Taken) → Type 0)
    (taken : (p : Protection) → P (frame_stepped (sync_of d t (sync_in bytes p)) kept t)) where
  abbrev Excepted : DomainCall (Outcome Taken) → Type 0
  Excepted r = is_excepted (outcome_number r.answer) ≡ true → P r

  abbrev ExceptedRead : Result Frame NoFrame → Type 0
  ExceptedRead r = Excepted (frame_call_as (read_for r d.number d.settings.role) d kept t bytes)

  by_values :
      (values : Frame) → Excepted (frame_stepped (kind_of d t values) kept t) → ExceptedRead (Ok values)
  by_values values found =
      either (λ (a : Outcome Frame). Excepted (frame_call_as a d kept t bytes))
      (is_for d.number d.settings.role (domain_in values) Slave)
      (either (λ (s : DomainStep (Outcome Taken)). Excepted (frame_stepped s kept t))
      (is_taken d.settings.mode d.settings.ids bytes) found not_so)
      not_so

  a_sync : (p : Protection) → ExceptedRead (Ok (sync (sync_in bytes p)))
  a_sync p = by_values (sync (sync_in bytes p)) (λ e. taken p)

  a_fup : (f : Fup) → ExceptedRead (Ok (fup f))
  a_fup f =
      let tests = kind_tests (Ok (fup f)) d t in
      let none = ap is_excepted (kind_order d kept t bytes (fup f)) ∙ other_tests tests refl in
      by_values (fup f) (λ e. not_so (sym none ∙ e))

  by_type : (type : Option FrameType) → ExceptedRead (values_of type bytes)
  by_type (Some PlainSync) = a_sync (Plain (get_or bytes 1 0))
  by_type (Some SecuredSync) = a_sync Secured
  by_type (Some PlainFup) = a_fup (fup_in bytes (Plain (get_or bytes 1 0)))
  by_type (Some SecuredFup) = a_fup (fup_in bytes Secured)
  by_type None = not_so

  by_sync : Excepted (frame_call_of d kept t bytes)
  by_sync =
      either (λ (a : Outcome Frame). Excepted (frame_call_as a d kept t bytes)) (is_good_reading kept t)
      (either ExceptedRead (eqb (length bytes) 8) (by_type (type_of (get_or bytes 0 0))) not_so) not_so

-- ---- what it changes

module _ (n : Node) (t : VirtualLocalTime) (bytes : List ℕ) where
  abbrev d : Domain
  d = named n bytes

  abbrev stored : DomainCall (Outcome Taken) → Node
  stored r = stored_in n (addressed_by bytes) r.domain r.kept

  abbrev kept_under : (number : ℕ) → VirtualLocalTime
  kept_under number = frame_kept number n.kept t

  pub six_keeps : number_in (answer_to n (frame t bytes)) ≡ 6 → node_after n (frame t bytes) ≡ after_six n bytes
  six_keeps e =
      by_sync d n.kept t bytes (λ r. outcome_number r.answer ≡ 6 → stored r ≡ after_six n bytes)
      (λ p six i. stored_in n (addressed_by bytes) (six_keeps_sync d t (sync_in bytes p) six i) (ap kept_under six i))
      (ap is_excepted e) e

  pub fifteen_keeps :
      number_in (answer_to n (frame t bytes)) ≡ 15 → JoinedRow n t bytes (node_after n (frame t bytes))
  fifteen_keeps e =
      by_sync d n.kept t bytes (λ r. outcome_number r.answer ≡ 15 → JoinedRow n t bytes (stored r))
      (λ p fifteen.
      let joined = fifteen_keeps_sync d t (sync_in bytes p) fifteen in
      record {
        row = joined.row;
        below = joined.below;
        counted = joined.counted;
        is = λ i. stored_in n (addressed_by bytes) (joined.is i) (ap kept_under fifteen i);
      })
      (ap is_excepted e) e

-- ---- H 0

no_frame_keeps :
    (n : Node) (c : Call) → (IsFrame c → ⊥) → IsRefused n c →
    (node_after n c ≡ n) × (number_in (answer_to n c) ≡ 15 → ⊥)
no_frame_keeps n c other refused =
    let fifteen : number_in (answer_to n c) ≡ 15 → ⊥ = λ e. other (frames_only n c (inr e)) in
    (refusal_keeps n c (refused, λ e. other (frames_only n c (inl e)), fifteen), fifteen)

pub h_zero_keeps :
    (n : Node) (c : Call) → HZero n c → IsRefused n c → (node_after n c ≡ n) × (number_in (answer_to n c) ≡ 15 → ⊥)
h_zero_keeps n (frame t bytes) h refused = (by (eqb (number_in (answer_to n (frame t bytes))) 6) refl, fifteen)
  where
    fifteen : number_in (answer_to n (frame t bytes)) ≡ 15 → ⊥
    fifteen e = omega (arith, h, (fifteen_keeps n t bytes e).below)

    by : (b : Bool) → eqb (number_in (answer_to n (frame t bytes))) 6 ≡ b → node_after n (frame t bytes) ≡ n
    by true e =
        six_keeps n t bytes (eqb-true _ 6 e)
        ∙ stored_same n (addressed_by bytes)
        (ap (with_last (named n bytes)) (last_stays _ (named n bytes).last (omega (arith, h))), refl)
    by false e = refusal_keeps n (frame t bytes) (refused, eqb-false _ 6 e, fifteen)
h_zero_keeps n (read domain t) h refused = no_frame_keeps n (read domain t) (λ f. f) refused
h_zero_keeps n (set domain t s ns) h refused = no_frame_keeps n (set domain t s ns) (λ f. f) refused
h_zero_keeps n (cycle t out) h refused = no_frame_keeps n (cycle t out) (λ f. f) refused
h_zero_keeps n (confirm domain t counter out) h refused =
    no_frame_keeps n (confirm domain t counter out) (λ f. f) refused
