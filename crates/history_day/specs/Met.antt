-- What demand 3 asks of a link and a history, gathered; its first sentence with another condition in place of
-- "exceed", and its last with another row, or for later FUPs. Assumes nothing.
use Rattle.std.specs.Prelude.{ℕ, zero, suc, ◌+◌, ◌-◌, ◌*◌, ◌≤◌, ◌<◌, ◌≡◌, true, cond, List, [], ◌∷◌, ◌++◌, Some}
use Rattle.clock.specs.declared.base.TimeBase.{TimeBase}
use Rattle.frame.specs.ByteTwo.{counters}
use Rattle.clock.specs.Reading.{span_of}
use Rattle.clock.specs.Time.{nanoseconds_of}
use Rattle.node_call.specs.Calls.{number_in, answer_to}
use Rattle.history.specs.History.{
  Link,
  master_settings,
  slave_settings,
  on_master,
  on_slave,
  at_master,
  at_slave,
  History,
  master_after,
  slave_after,
  slave_record,
  is_fup,
  is_sync,
}
use Rattle.history.specs.Demand.{Exceed, TimeOfOne, Copy, Orderly, InRow, Taken, syncs_in, copies_since, Fair}

-- ---- what the first sentence asks, and a time that the slave then holds
pub record HeldMet (k : Link) (h : History) (b : TimeBase) : Type 0 where
  pub fair : Fair k h
  pub exceed : Exceed k
  pub holds : (slave_record k h).base ≡ Some b

-- ---- what the last sentence asks of a pair but for the row of its SYNC
pub record PairMet
    (k : Link) (h : History) (moment : ℕ) (newer : List Copy) (fup sync : Copy) (older : List Copy) : Type 0 where
  pub fair : Fair k h
  pub orderly : Orderly k moment h
  pub copies : orderly.copies ≡ newer ++ (fup ∷ sync ∷ older)
  pub is_a_fup : is_fup fup.of ≡ true
  pub soon : span_of sync.at fup.at ≤ (slave_settings k).follow_up_time

-- ---- the last sentence where something else is asked of that row
abbrev pub TakenIf : (Link → (moment : ℕ) → Copy → List Copy → Type 0) → Type 0
TakenIf Row =
    (k : Link) (h : History) (moment : ℕ) (newer : List Copy) (fup sync : Copy) (older : List Copy) →
    PairMet k h moment newer fup sync older → Row k moment sync older → Taken k moment h fup sync older

-- ---- `InRow` whose first SYNC arrives at the moment plus L, or up to so much earlier, and any two near each other
abbrev pub at_most_l : Link → (span : ℕ) → Type 0
at_most_l k span = span ≤ (slave_settings k).loss_time

abbrev pub RowBy : (earlier : ℕ) (Near : Link → ℕ → Type 0) → Link → (moment h : ℕ) → Copy → List Copy → Type 0
RowBy earlier Near k moment zero y older =
    moment + (slave_settings k).loss_time ≤ on_slave k y.at + earlier
RowBy earlier Near k moment (suc h) y [] = ⊥
RowBy earlier Near k moment (suc h) y (q ∷ older) =
    cond (is_sync q.of)
    (Near k (span_of q.at y.at) × RowBy earlier Near k moment h q older)
    (RowBy earlier Near k moment (suc h) y older)

-- ---- the last sentence from so much earlier on; with one SYNC fewer; and with SYNCs any span apart
abbrev pub TakenFrom : (earlier : ℕ) → Type 0
TakenFrom earlier = TakenIf (λ k moment. RowBy earlier at_most_l k moment (slave_settings k).hysteresis)

abbrev pub OneSyncFewer : Type 0
OneSyncFewer = TakenIf (λ k moment. RowBy 0 at_most_l k moment ((slave_settings k).hysteresis - 1))

abbrev pub AnyDistance : Type 0
AnyDistance = TakenIf (λ k moment. RowBy 0 (λ k span. Unit {0}) k moment (slave_settings k).hysteresis)

-- ---- the request's words with so many SYNCs fewer, and with something else asked of all arrivals
abbrev pub SpacedBy : (fewer : ℕ) (Apart : Link → List Copy → Type 0) → Type 0
SpacedBy fewer Apart =
    (k : Link) (h : History) (moment : ℕ) (newer : List Copy) (fup sync : Copy) (older : List Copy) →
    (m : PairMet k h moment newer fup sync older) → Apart k m.orderly.copies →
    moment + (slave_settings k).loss_time ≤ on_slave k sync.at →
    (slave_settings k).hysteresis ≤ fewer + syncs_in (copies_since k (moment + (slave_settings k).loss_time) older) →
    Taken k moment h fup sync older

-- ---- the last sentence for FUPs that arrive F after their SYNCs, or up to so much later
abbrev pub TakenUntil : (later : ℕ) → Type 0
TakenUntil later =
    (k : Link) (h : History) → Fair k h → (moment : ℕ) (o : Orderly k moment h) →
    (newer older : List Copy) (fup sync : Copy) → o.copies ≡ newer ++ (fup ∷ sync ∷ older) →
    is_fup fup.of ≡ true → span_of sync.at fup.at ≤ (slave_settings k).follow_up_time + later →
    InRow k moment (slave_settings k).hysteresis sync older → Taken k moment h fup sync older

-- ---- the first sentence under a condition that need not be "exceed"
abbrev pub HeldUnder : (Link → Type 0) → Type 0
HeldUnder Condition =
    (k : Link) → Condition k → (h : History) → Fair k h →
    (b : TimeBase) → (slave_record k h).base ≡ Some b → TimeOfOne k h b

-- ---- 16 sending periods reach E plus the one time, and "exceed" E plus the other
pub record ReachFollowUp (k : Link) : Type 0 where
  pub follow_up : k.e + (slave_settings k).follow_up_time ≤ counters * (master_settings k).period
  pub confirmation : k.e + (master_settings k).confirmation_time < counters * (master_settings k).period

pub record ReachConfirmation (k : Link) : Type 0 where
  pub follow_up : k.e + (slave_settings k).follow_up_time < counters * (master_settings k).period
  pub confirmation : k.e + (master_settings k).confirmation_time ≤ counters * (master_settings k).period

-- ---- a condition, and 16 sending periods of less than a second
pub record Within (Condition : Link → Type 0) (k : Link) : Type 0 where
  pub met : Condition k
  pub within : counters * (master_settings k).period < 1000000000

-- ---- a time that the slave holds and that is of no SYNC
pub record WrongHeld (k : Link) (h : History) (b : TimeBase) : Type 0 where
  pub fair : Fair k h
  pub holds : (slave_record k h).base ≡ Some b
  pub wrong : TimeOfOne k h b → ⊥

-- ---- a time that the slave holds, with all of the first sentence met, and that is E behind, or C ahead
pub record BehindByE (k : Link) (h : History) (b : TimeBase) : Type 0 where
  pub met : HeldMet k h b
  pub one : TimeOfOne k h b
  pub behind :
      nanoseconds_of one.sync.time + on_slave k b.at
      ≡ nanoseconds_of b.time + on_master k one.sync.at + k.e

pub record AheadByC (k : Link) (h : History) (b : TimeBase) : Type 0 where
  pub met : HeldMet k h b
  pub one : TimeOfOne k h b
  pub ahead :
      nanoseconds_of b.time + on_master k one.sync.at
      ≡ nanoseconds_of one.sync.time + on_slave k b.at + (master_settings k).confirmation_time

-- ---- the number that each call is answered
abbrev pub numbers_in : Link → History → List ℕ
numbers_in k [] = []
numbers_in k (at_master c ∷ h) = number_in (answer_to (master_after k h) c) ∷ numbers_in k h
numbers_in k (at_slave c ∷ h) = number_in (answer_to (slave_after k h) c) ∷ numbers_in k h
