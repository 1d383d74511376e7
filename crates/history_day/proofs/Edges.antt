-- Demand 3's first sentence says "exceed" of two sums, and needs it of each: antt computes a history where 16
-- sending periods only equal the one, and one where they only equal the other; each also within one second, where
-- SYNCs 16 apart are byte for byte the same. A time may be E behind, or C ahead. And the last sentence does not hold
-- a nanosecond earlier. No contract cites this file.
--   under_exceed           the sentence gives the sentence under "exceed"
--   wrong_under            a wrong time that is held refutes the sentence under any condition that its link meets
--   follow_up_equal        16 periods equal E plus the follow-up time
--   follow_up_wrong        the slave holds a wrong time there
--   follow_up_exceeded     so the sentence is false where they need only reach that sum
--   confirmation_equal     16 periods equal E plus the confirmation time
--   confirmation_wrong     the slave holds a wrong time there
--   confirmation_exceeded  so the sentence is false where they need only reach that sum
--   follow_up_within_equal, follow_up_within_wrong, follow_up_within_exceeded,
--   confirmation_within_equal, confirmation_within_wrong, confirmation_within_exceeded
--                          the same within one second
--   anew_met               a history within one second that meets all of the first sentence
--   anew_of_one            so what is held there is of one SYNC
--   anew_wrong             its time tied to the reading at the SYNC 16 later is of none
--   behind_by_e            a time that is E behind
--   ahead_by_c             a time that is C ahead
--   loss_met               the last sentence's hypotheses hold of a pair, but for the moment of its SYNC
--   loss_one_earlier       that is a nanosecond before the moment plus L
--   loss_not_taken         and the pair is not taken
--   loss_exceeded          so the sentence is false from a nanosecond earlier on
-- Assumes nothing.
use Prim.Native.Nat.{◌+◌, ◌*◌}
use mathlib.Core.Path.{◌≡◌, refl, sym, ap, ◌∙◌}
use mathlib.Core.Bool.{true}
use mathlib.Core.Logic.{inl, inr}
use mathlib.Core.List.{[], ◌∷◌}
use native.Mathlib.Omega.{arith}
use Rattle.clock.specs.declared.base.TimeBase.{TimeBase}
use Rattle.round.specs.Round.{goes}
use Rattle.history.specs.History.{Link, master_settings, slave_settings, on_slave, History}
use Rattle.history.specs.Demand.{Linked, Exceed, TimeOfOne, EachTimeHeld, Taken}
use Rattle.history.proofs.Held.{each_time_held}
use Rattle.history_day.specs.Met.{
  HeldMet,
  PairMet,
  TakenFrom,
  HeldUnder,
  ReachFollowUp,
  ReachConfirmation,
  Within,
  WrongHeld,
  BehindByE,
  AheadByC,
}
use Rattle.history_day.specs.Edges.{
  follow_up_link,
  follow_up_edge,
  follow_up_base,
  confirmation_link,
  confirmation_edge,
  confirmation_base,
  follow_up_within_link,
  follow_up_within_edge,
  follow_up_within_base,
  confirmation_within_link,
  confirmation_within_edge,
  confirmation_within_base,
  anew_link,
  anew_day,
  anew_held,
  anew_base,
  near_link,
  near_sync,
  behind_fup,
  behind_before,
  behind_day,
  behind_base,
  ahead_fup,
  ahead_before,
  ahead_day,
  ahead_base,
  loss_link,
  loss_moment,
  loss_sync,
  loss_fup,
  loss_edge,
}
use Rattle.history_day.proofs.Tests.{linked_by, fair, held_met, not_of_one, never_set, never_set_lem}

pub under_exceed : EachTimeHeld → HeldUnder Exceed
under_exceed each k exceed h fair b holds =
    held_met k h b (record { fair = fair; exceed = exceed; holds = holds }) each

pub wrong_under :
    (Condition : Link → Type 0) (k : Link) (h : History) (b : TimeBase) → Condition k → WrongHeld k h b →
    HeldUnder Condition → ⊥
wrong_under Condition k h b met w each = w.wrong (each k met h w.fair b w.holds)

-- ---- E plus the follow-up time
pub follow_up_equal :
    follow_up_link.e + (slave_settings follow_up_link).follow_up_time ≡ 16 * (master_settings follow_up_link).period
follow_up_equal = refl

follow_up_linked : Linked follow_up_link
follow_up_linked = linked_by _ (omega arith) refl refl refl refl refl refl

pub follow_up_wrong : WrongHeld follow_up_link follow_up_edge follow_up_base
unfolding goes
follow_up_wrong =
    let met = fair follow_up_link follow_up_linked refl follow_up_edge refl in
    record {
      fair = met;
      holds = refl;
      wrong = not_of_one follow_up_link follow_up_edge follow_up_base met.never_fall refl;
    }

pub follow_up_exceeded : HeldUnder ReachFollowUp → ⊥
follow_up_exceeded =
    wrong_under ReachFollowUp follow_up_link follow_up_edge follow_up_base
    (record { follow_up = omega arith; confirmation = omega arith })
    follow_up_wrong

-- ---- E plus the confirmation time
pub confirmation_equal :
    confirmation_link.e + (master_settings confirmation_link).confirmation_time
    ≡ 16 * (master_settings confirmation_link).period
confirmation_equal = refl

confirmation_linked : Linked confirmation_link
confirmation_linked = linked_by _ (omega arith) refl refl refl refl refl refl

pub confirmation_wrong : WrongHeld confirmation_link confirmation_edge confirmation_base
unfolding goes
confirmation_wrong =
    let met = fair confirmation_link confirmation_linked refl confirmation_edge refl in
    record {
      fair = met;
      holds = refl;
      wrong = not_of_one confirmation_link confirmation_edge confirmation_base met.never_fall refl;
    }

pub confirmation_exceeded : HeldUnder ReachConfirmation → ⊥
confirmation_exceeded =
    wrong_under ReachConfirmation confirmation_link confirmation_edge confirmation_base
    (record { follow_up = omega arith; confirmation = omega arith })
    confirmation_wrong

-- ---- within one second
pub follow_up_within_equal :
    follow_up_within_link.e + (slave_settings follow_up_within_link).follow_up_time
    ≡ 16 * (master_settings follow_up_within_link).period
follow_up_within_equal = refl

follow_up_within_linked : Linked follow_up_within_link
follow_up_within_linked = linked_by _ (omega arith) refl refl refl refl refl refl

pub follow_up_within_wrong : WrongHeld follow_up_within_link follow_up_within_edge follow_up_within_base
unfolding goes
follow_up_within_wrong =
    let met = fair follow_up_within_link follow_up_within_linked refl follow_up_within_edge refl in
    record {
      fair = met;
      holds = refl;
      wrong = not_of_one follow_up_within_link follow_up_within_edge follow_up_within_base met.never_fall refl;
    }

pub follow_up_within_exceeded : HeldUnder (Within ReachFollowUp) → ⊥
follow_up_within_exceeded =
    wrong_under (Within ReachFollowUp) follow_up_within_link follow_up_within_edge follow_up_within_base
    (record { met = record { follow_up = omega arith; confirmation = omega arith }; within = omega arith })
    follow_up_within_wrong

pub confirmation_within_equal :
    confirmation_within_link.e + (master_settings confirmation_within_link).confirmation_time
    ≡ 16 * (master_settings confirmation_within_link).period
confirmation_within_equal = refl

confirmation_within_linked : Linked confirmation_within_link
confirmation_within_linked = linked_by _ (omega arith) refl refl refl refl refl refl

pub confirmation_within_wrong : WrongHeld confirmation_within_link confirmation_within_edge confirmation_within_base
unfolding goes
confirmation_within_wrong =
    let met = fair confirmation_within_link confirmation_within_linked refl confirmation_within_edge refl in
    record {
      fair = met;
      holds = refl;
      wrong = not_of_one confirmation_within_link confirmation_within_edge confirmation_within_base met.never_fall refl;
    }

pub confirmation_within_exceeded : HeldUnder (Within ReachConfirmation) → ⊥
confirmation_within_exceeded =
    wrong_under (Within ReachConfirmation) confirmation_within_link confirmation_within_edge confirmation_within_base
    (record { met = record { follow_up = omega arith; confirmation = omega arith }; within = omega arith })
    confirmation_within_wrong

-- ---- a time tied anew
anew_linked : Linked anew_link
anew_linked = linked_by _ (omega arith) refl refl refl refl refl refl

pub anew_met : HeldMet anew_link anew_day anew_held
unfolding goes
anew_met =
    record {
      fair = fair anew_link anew_linked refl anew_day refl;
      exceed = record { follow_up = omega arith; confirmation = omega arith };
      holds = refl;
    }

pub anew_of_one : TimeOfOne anew_link anew_day anew_held
anew_of_one = held_met anew_link anew_day anew_held anew_met each_time_held

pub anew_wrong : TimeOfOne anew_link anew_day anew_base → ⊥
unfolding goes
anew_wrong = not_of_one anew_link anew_day anew_base anew_met.fair.never_fall refl

-- ---- how far a time is off
near_linked : Linked near_link
near_linked = linked_by _ (omega arith) refl refl refl refl refl refl

near_exceed : Exceed near_link
near_exceed = record { follow_up = omega arith; confirmation = omega arith }

pub behind_by_e : BehindByE near_link behind_day behind_base
unfolding goes
behind_by_e =
    record {
      met = record { fair = fair near_link near_linked refl behind_day refl; exceed = near_exceed; holds = refl };
      one =
          record {
            sync = near_sync;
            fup = behind_fup;
            newer = [];
            older = [];
            sent = refl;
            is_a_sync = refl;
            is_a_fup = refl;
            time = refl;
            after = _ ∷ [];
            before = behind_before;
            copy = refl;
            copied = record { sent = inr (inl refl); same = refl; soon = omega arith };
          };
      behind = refl;
    }

pub ahead_by_c : AheadByC near_link ahead_day ahead_base
unfolding goes
ahead_by_c =
    record {
      met = record { fair = fair near_link near_linked refl ahead_day refl; exceed = near_exceed; holds = refl };
      one =
          record {
            sync = near_sync;
            fup = ahead_fup;
            newer = [];
            older = [];
            sent = refl;
            is_a_sync = refl;
            is_a_fup = refl;
            time = refl;
            after = _ ∷ _ ∷ [];
            before = ahead_before;
            copy = refl;
            copied = record { sent = inl refl; same = refl; soon = omega arith };
          };
      ahead = refl;
    }

-- ---- the loss time
loss_linked : Linked loss_link
loss_linked = linked_by _ (omega arith) refl refl refl refl refl refl

pub loss_met : PairMet loss_link loss_edge loss_moment [] loss_fup loss_sync []
unfolding goes
loss_met =
    record {
      fair = fair loss_link loss_linked refl loss_edge refl;
      orderly = record { under_way = []; copies = loss_fup ∷ loss_sync ∷ []; all = refl; only = refl };
      copies = refl;
      is_a_fup = refl;
      soon = omega arith;
    }

pub loss_one_earlier :
    loss_moment + (slave_settings loss_link).loss_time ≡ on_slave loss_link loss_sync.at + 1
loss_one_earlier = refl

loss_never_set : never_set loss_link loss_edge ≡ true
unfolding goes
loss_never_set = refl

pub loss_not_taken : Taken loss_link loss_moment loss_edge loss_fup loss_sync [] → ⊥
loss_not_taken t =
    never_set_lem loss_link t.after _ t.before _ (ap (never_set loss_link) (sym t.call) ∙ loss_never_set) t.base

pub loss_exceeded : TakenFrom 1 → ⊥
loss_exceeded each =
    loss_not_taken (each loss_link loss_edge loss_moment [] loss_fup loss_sync [] loss_met (omega (arith, loss_one_earlier)))
