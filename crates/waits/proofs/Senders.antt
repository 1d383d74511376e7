-- Who sends in a main cycle, by the frames that it gives. No contract cites this file.
--   completed_cycle   what a completed main cycle makes of the node
--   senders_served    the frames that it gives name, in their order, the first S due domains from where the round stands
--   sends_served      so a domain sends exactly if it is one of these
-- Assumes nothing.
use Rattle.std.specs.Prelude.{None, Option, Some, is_some}
use Prim.Native.Nat.{ℕ, ◌<◌}
use mathlib.Core.Path.{◌≡◌, refl, sym, ap, ◌∙◌}
use mathlib.Core.Bool.{Bool, true, false, ◌&&◌, ◌||◌, false≢true}
use mathlib.Core.List.{List, [], ◌∷◌, ◌++◌, map, flat_map, map-append}
use native.Mathlib.Omega.{arith}
use lib.Dec.{eqb}
use lib.ListN.{length}
use borrow.Author.Tests.{eqb-true, eqb-false}
use Rattle.promise.proofs.Tests.{either}
use Rattle.clock.specs.declared.reading.VirtualLocalTime.{VirtualLocalTime}
use Rattle.frame.specs.declared.data_ids.DataIds.{DataIds}
use Rattle.frame.specs.declared.values.Frame.TheVariants.{Sync as sync}
use Rattle.settings.specs.Node.{places}
use Rattle.admission.specs.Reading.{is_good_reading}
use Rattle.domain.specs.declared.Domain.{Domain}
use Rattle.domain.specs.Records.{record_at}
use Rattle.master_send.specs.Send.{due_in, is_due, send_as, send_of}
use Rattle.round.specs.Round.{frames_by}
use Rattle.round.specs.FirstDue.{served_of, Each, NotIn, frame_by}
use Rattle.round.proofs.Places.{each_with}
use Rattle.round.proofs.FirstDue.{round_frames, served_below, served_due}
use Rattle.node.specs.declared.Node.{Node}
use Rattle.node.specs.Frame.{addressed_by}
use Rattle.node.specs.Cycle.{is_room_for, gone_from, cycled_by}
use Rattle.node_call.specs.Calls.{cycle, node_after, answer_to, number_in, given_by}
use Rattle.node_laws.specs.Good.{Good}
use Rattle.node_laws.proofs.Cycles.{addressed, cycle_given}
use Rattle.waits.specs.Waits.{is_completed, is_among, does_send}
use Rattle.frame.specs.declared.values.Sync.{Sync}
use Rattle.master_rules.specs.declared.due.Due.{Due}
use Rattle.node.specs.declared.NodeStep.{NodeStep}
use Rattle.refusal.specs.Numbers.{Outcome, outcome_number}

-- ---- the one frame of a domain that is due names it

abbrev SendsFor : (i : ℕ) → Option Sync → Type 0
SendsFor i (Some s) = s.domain ≡ i
SendsFor i None = ⊥

sends_for : (x : Option Due) (d : Domain) (t : VirtualLocalTime) → is_some x ≡ true → SendsFor d.number (send_as x d t).answer
sends_for (Some due) d t e = refl
sends_for None d t e = absurd (false≢true e)

names_it :
    (a : Option Sync) (ids : DataIds) (i : ℕ) → i < places → SendsFor i a → map addressed_by (frames_by a ids) ≡ i ∷ []
names_it (Some s) ids i h e = ap (λ (a : ℕ). a ∷ []) (addressed ids (sync s) (rw e h) ∙ e)
names_it None ids i h e = absurd e

-- ---- so that the frames of places that each name themselves name these places
all_name :
    (f : ℕ → List (List ℕ)) (ps : List ℕ) → Each (λ (p : ℕ). map addressed_by (f p) ≡ p ∷ []) ps →
    map addressed_by (flat_map f ps) ≡ ps
unfolding flat_map
all_name f [] h = refl
all_name f (p ∷ ps) h =
    map-append addressed_by (f p) (flat_map f ps) ∙ (λ i. h.0 i ++ all_name f ps h.1 i)

-- ---- a place among others

pub among_not : (i : ℕ) (ps : List ℕ) → is_among i ps ≡ false → NotIn i ps
among_not i [] e = tt
among_not i (p ∷ ps) e = go (eqb p i) refl (among_not i ps) e
  where
    go :
        (b : Bool) → eqb p i ≡ b → (is_among i ps ≡ false → NotIn i ps) → (b || is_among i ps) ≡ false →
        NotIn i (p ∷ ps)
    go true w rest e = absurd (false≢true (sym e))
    go false w rest e = (eqb-false p i w, rest e)

-- ---- the main cycle

module _ (n : Node) (t : VirtualLocalTime) (out : List ℕ) where
  answered : is_completed n (cycle t out) ≡ true → number_in (answer_to n (cycle t out)) ≡ 0
  answered e = omega (arith, eqb-true)

  abbrev Cycled : NodeStep (Outcome ℕ) → Type 0
  Cycled r = outcome_number r.answer ≡ 0 → r.node ≡ (cycled_by n t (gone_from n t)).node

  pub completed_cycle :
      is_completed n (cycle t out) ≡ true → node_after n (cycle t out) ≡ (cycled_by n t (gone_from n t)).node
  completed_cycle e =
      either Cycled (is_good_reading n.kept t)
      (either Cycled (is_room_for n (length out)) (λ z. refl) (λ z. absurd (omega arith)))
      (λ z. absurd (omega arith))
      (answered e)

  abbrev served : List ℕ
  served = served_of n.domains n.round t n.syncs_per_cycle

  module _ (good : Good n) (e : is_completed n (cycle t out) ≡ true) where
    named :
        (p : ℕ) → p < places → is_due (record_at n.domains p) t ≡ true →
        map addressed_by (frame_by (record_at n.domains p) t) ≡ p ∷ []
    named p h due =
        let d = record_at n.domains p in
        names_it (send_of d t).answer d.settings.ids p h
        (rw (good.records p h).number at (sends_for (due_in d t) d t due))

    pub senders_served : map addressed_by (given_by (answer_to n (cycle t out))) ≡ served
    senders_served =
        ap (map addressed_by)
        (cycle_given n t out (answered e) ∙ round_frames n.domains n.round t n.syncs_per_cycle)
        ∙ all_name (λ (p : ℕ). frame_by (record_at n.domains p) t) served
        (each_with named served (served_below n.domains n.round t n.syncs_per_cycle)
        (served_due n.domains n.round t n.syncs_per_cycle))

    pub sends_served : (i : ℕ) → does_send n (cycle t out) i ≡ is_among i served
    sends_served i = λ j. e j && is_among i (senders_served j)
