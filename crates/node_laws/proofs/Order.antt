-- "The call tests in the order of the numbers, as far as each concerns it": the number of a call's answer is the first
-- of its tests that holds, else 0; on every node and every argument. No contract cites this file.
--   frame_order      a frame
--   read_order       a read
--   set_order        a set
--   cycle_order      a main cycle
--   confirm_order    a confirmation
--   new_order        `new`
--   order            any call
-- Assumes nothing.
use Rattle.std.specs.Prelude.{None, Ok, Option, Result, Some}
use Prim.Native.Nat.{ℕ, ◌+◌, ◌%◌}
use mathlib.Core.Path.{◌≡◌, refl}
use mathlib.Core.Bool.{Bool, true, false, not, cond}
use mathlib.Core.List.{List}
use lib.Dec.{leb, ltb, eqb}
use lib.ListN.{length, get_or}
use Rattle.clock.specs.declared.reading.VirtualLocalTime.{VirtualLocalTime}
use Rattle.clock.specs.Time.{is_nanoseconds}
use Rattle.frame.specs.declared.values.Protection.TheVariants.{Plain, Secured}
use Rattle.frame.specs.declared.values.Sync.{Sync}
use Rattle.frame.specs.declared.values.Fup.{Fup}
use Rattle.frame.specs.declared.values.Frame.{Frame}
use Rattle.frame.specs.declared.values.Frame.TheVariants.{Sync as sync, Fup as fup}
use Rattle.frame.specs.Types.{type_of}
use Rattle.frame.specs.Values.{domain_in}
use Rattle.frame_read.specs.Read.{named_domain, sync_in, fup_in, values_of}
use Rattle.frame_check.specs.Check.{is_taken}
use Rattle.settings.specs.declared.node_settings.NodeSettings.{NodeSettings}
use Rattle.settings.specs.Ranges.{within}
use Rattle.settings.specs.Node.{places, all_good}
use Rattle.admission.specs.declared.Needed.TheVariants.{Slave, Master, Either}
use Rattle.admission.specs.Reading.{is_good_reading}
use Rattle.admission.specs.Admission.{is_for}
use Rattle.admission.specs.FrameAdmission.{read_for}
use Rattle.domain.specs.declared.Domain.{Domain}
use Rattle.domain.specs.declared.Pair.{Pair}
use Rattle.domain.specs.declared.Sending.{Sending}
use Rattle.domain.specs.declared.Sending.TheVariants.{Never, Open, Confirmed}
use Rattle.domain.specs.Records.{record_at}
use Rattle.slave_counter.specs.declared.CounterVerdict.{CounterVerdict}
use Rattle.slave_counter.specs.declared.CounterVerdict.TheVariants.{Free, Good, NotGood}
use Rattle.slave_counter.specs.Row.{row_of, checked_of}
use Rattle.slave_pair.specs.Join.{is_old, is_other, is_above}
use Rattle.slave_sync.specs.Sync.{verdict_for, sync_as}
use Rattle.slave_update.specs.Update.{new_base}
use Rattle.slave_fup.specs.Fup.{update_in, taken_by}
use Rattle.slave_frame.specs.Step.{kind_of}
use Rattle.master_follow.specs.Follow.{is_open_for}
use Rattle.call_frame.specs.FrameCall.{frame_call_as}
use Rattle.node.specs.declared.Node.{Node}
use Rattle.node.specs.New.{new_of}
use Rattle.node.specs.Frame.{addressed_by}
use Rattle.node.specs.Cycle.{is_room_for}
use Rattle.node_call.specs.Calls.{Call, frame, read, set, cycle, confirm, answer_to, number_in}
use Rattle.node_laws.specs.Tests.{
  first_of,
  no_type,
  not_for,
  not_good,
  not_complete,
  kind_tests,
  frame_tests,
  read_tests,
  set_tests,
  cycle_tests,
  confirm_tests,
  new_tests,
  tests_of,
}
use Rattle.clock.specs.declared.base.TimeBase.{TimeBase}
use Rattle.domain.specs.declared.DomainStep.{DomainStep}
use Rattle.frame.specs.declared.types.FrameType.{FrameType}
use Rattle.frame.specs.declared.types.FrameType.TheVariants.{PlainFup, PlainSync, SecuredFup, SecuredSync}
use Rattle.frame_read.specs.declared.NoFrame.{NoFrame}
use Rattle.refusal.specs.Numbers.{Outcome, outcome_number}
use Rattle.slave_answer.specs.declared.Taken.{Taken}

-- ---- one test: where it is met the later ones are asked, else its number is given

met :
    {A : Type 0} (number : A → ℕ) (b : Bool) {x y : A} {k later : ℕ} →
    number x ≡ later → number y ≡ k → number (cond b x y) ≡ cond (not b) k later
met number true p q = p
met number false p q = q

-- ---- what a test says is put into both sides, and the numbers are compared

told :
    {A : Type 0} {x y : A} (b : Bool) → (b ≡ true → x ≡ y) → (b ≡ false → x ≡ y) → x ≡ y
told true p q = p refl
told false p q = q refl

-- ---- a frame

module _ (d : Domain) (kept t : VirtualLocalTime) (bytes : List ℕ) where
  taken_zero :
      (base : Option TimeBase) (p : Pair) (f : Fup) →
      outcome_number (taken_by (update_in d base (new_base p f)) d p f).answer ≡ 0
  taken_zero None p f = refl
  taken_zero (Some b) p f = refl

  abbrev step_number : DomainStep (Outcome Taken) → ℕ
  step_number s = outcome_number s.answer

  fup_order :
      (f : Fup) (pairing : Option Pair) → d.pairing ≡ pairing →
      step_number (kind_of d t (fup f)) ≡ first_of (kind_tests (Ok (fup f)) d t)
  fup_order f None e = simp e
  fup_order f (Some p) e =
      told (is_old d.settings.follow_up_time p t) (λ old. simp (e, old))
      (λ young. told (is_other p f) (λ other. simp (e, young, other))
      (λ same. told (is_above f) (λ above. simp (e, young, same, above))
      (λ below. simp (e, young, same, below) (taken_zero d.base p f))))

  check_order :
      (s : Sync) (v : CounterVerdict) →
      let h = d.settings.hysteresis in
      let row = row_of d.last in
      step_number (sync_as (checked_of h row v) d t s) ≡ cond (not_good v) 6 (cond (not_complete h row v) 15 0)
  check_order s Free = told (ltb 0 d.settings.hysteresis) (λ more. simp more) (λ none. simp none)
  check_order s Good =
      told (ltb (row_of d.last + 1) d.settings.hysteresis) (λ more. simp more) (λ none. simp none)
  check_order s NotGood = refl

  pub kind_order : (values : Frame) → step_number (kind_of d t values) ≡ first_of (kind_tests (Ok values) d t)
  kind_order (sync s) = check_order s (verdict_for d t s)
  kind_order (fup f) = fup_order f d.pairing refl

  abbrev admission_number : Outcome Frame → ℕ
  admission_number a = outcome_number (frame_call_as a d kept t bytes).answer

  abbrev read_number_of : Result Frame NoFrame → ℕ
  read_number_of r = admission_number (read_for r d.number d.settings.role)

  values_order :
      (values : Frame) →
      read_number_of (Ok values)
      ≡ cond (not_for d (domain_in values) Slave) 4
      (cond (not (is_taken d.settings.mode d.settings.ids bytes)) 5 (first_of (kind_tests (Ok values) d t)))
  values_order values =
      met admission_number (is_for d.number d.settings.role (domain_in values) Slave)
      (met step_number (is_taken d.settings.mode d.settings.ids bytes) (kind_order values) refl) refl

  type_order :
      (type : Option FrameType) →
      read_number_of (values_of type bytes)
      ≡ cond (no_type type) 3
      (cond (not_for d (named_domain bytes) Slave) 4
      (cond (not (is_taken d.settings.mode d.settings.ids bytes)) 5
      (first_of (kind_tests (values_of type bytes) d t))))
  type_order (Some PlainSync) = values_order (sync (sync_in bytes (Plain (get_or bytes 1 0))))
  type_order (Some SecuredSync) = values_order (sync (sync_in bytes Secured))
  type_order (Some PlainFup) = values_order (fup (fup_in bytes (Plain (get_or bytes 1 0))))
  type_order (Some SecuredFup) = values_order (fup (fup_in bytes Secured))
  type_order None = refl

pub frame_order :
    (n : Node) (t : VirtualLocalTime) (bytes : List ℕ) →
    number_in (answer_to n (frame t bytes)) ≡ first_of (frame_tests n t bytes)
frame_order n t bytes =
    let d = record_at n.domains (addressed_by bytes) in
    met (admission_number d n.kept t bytes) (is_good_reading n.kept t)
    (met (read_number_of d n.kept t bytes) (eqb (length bytes) 8)
    (type_order d n.kept t bytes (type_of (get_or bytes 0 0))) refl)
    refl

-- ---- a read

pub read_order :
    (n : Node) (domain : ℕ) (t : VirtualLocalTime) →
    number_in (answer_to n (read domain t)) ≡ first_of (read_tests n domain t)
read_order n domain t =
    told (is_good_reading n.kept t)
    (λ good. told (is_for d.number d.settings.role domain Either) (λ for. held good for d.base refl)
    (λ other. simp (good, other)))
    (λ bad. simp bad)
  where
    d : Domain
    d = record_at n.domains (domain % places)

    held :
        is_good_reading n.kept t ≡ true → is_for d.number d.settings.role domain Either ≡ true →
        (base : Option TimeBase) → d.base ≡ base → number_in (answer_to n (read domain t)) ≡ first_of (read_tests n domain t)
    held good for None e = simp (good, for, e)
    held good for (Some b) e = simp (good, for, e)

-- ---- a set

pub set_order :
    (n : Node) (domain : ℕ) (t : VirtualLocalTime) (seconds nanoseconds : ℕ) →
    number_in (answer_to n (set domain t seconds nanoseconds)) ≡ first_of (set_tests n domain t nanoseconds)
set_order n domain t seconds nanoseconds =
    let d = record_at n.domains (domain % places) in
    told (is_good_reading n.kept t)
    (λ good. told (is_for d.number d.settings.role domain Master)
    (λ for. told (is_nanoseconds nanoseconds) (λ few. simp (good, for, few)) (λ many. simp (good, for, many)))
    (λ other. simp (good, other)))
    (λ bad. simp bad)

-- ---- a main cycle

pub cycle_order :
    (n : Node) (t : VirtualLocalTime) (out : List ℕ) →
    number_in (answer_to n (cycle t out)) ≡ first_of (cycle_tests n t out)
cycle_order n t out =
    told (is_good_reading n.kept t)
    (λ good. told (is_room_for n (length out)) (λ room. simp (good, room)) (λ short. simp (good, short)))
    (λ bad. simp bad)

-- ---- a confirmation

pub confirm_order :
    (n : Node) (domain : ℕ) (t : VirtualLocalTime) (counter : ℕ) (out : List ℕ) →
    number_in (answer_to n (confirm domain t counter out)) ≡ first_of (confirm_tests n domain t counter out)
confirm_order n domain t counter out =
    told (is_good_reading n.kept t)
    (λ good. told (is_for d.number d.settings.role domain Master) (λ for. sent good for d.sending refl)
    (λ other. simp (good, other)))
    (λ bad. simp bad)
  where
    d : Domain
    d = record_at n.domains (domain % places)

    sent :
        is_good_reading n.kept t ≡ true → is_for d.number d.settings.role domain Master ≡ true →
        (sending : Sending) → d.sending ≡ sending →
        number_in (answer_to n (confirm domain t counter out)) ≡ first_of (confirm_tests n domain t counter out)
    sent good for Never e = simp (good, for, e)
    sent good for (Open was seconds nanoseconds at) e =
        told (is_open_for d.settings.confirmation_time was at t counter)
        (λ its. told (leb 8 (length out))
        (λ room. simp (good, for, e, its, room)) (λ short. simp (good, for, e, its, short)))
        (λ none. simp (good, for, e, none))
    sent good for (Confirmed at) e = simp (good, for, e)

-- ---- `new`

pub new_order : (s : NodeSettings) → outcome_number (new_of s).answer ≡ first_of (new_tests s)
new_order s =
    told (within 1 16 s.syncs_per_cycle)
    (λ one. told (all_good s.domains) (λ all. simp (one, all)) (λ some. simp (one, some)))
    (λ none. simp none)

-- ---- any call

pub order : (n : Node) (c : Call) → number_in (answer_to n c) ≡ first_of (tests_of n c)
order n (frame t bytes) = frame_order n t bytes
order n (read domain t) = read_order n domain t
order n (set domain t seconds nanoseconds) = set_order n domain t seconds nanoseconds
order n (cycle t out) = cycle_order n t out
order n (confirm domain t counter out) = confirm_order n domain t counter out
