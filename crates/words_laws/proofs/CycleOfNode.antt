-- On the words of a node a main cycle gives the words of the node after. No contract cites this file.
--   stored_fits           a node that fits, with a record stored that fits, fits
--   turn_fits             so does a record after its turn
--   AreWords, are_words   that words are those of a node that fits, which a turn keeps
--   cycle_of_node         so the words after a main cycle are those of the node after
-- Assumes nothing.
use Rattle.std.specs.Prelude.{None, Option, Some}
use Prim.Native.Nat.{ℕ, ◌*◌, ◌%◌, ◌<◌}
use mathlib.Core.Path.{◌≡◌, refl, sym, ap, subst, ◌∙◌}
use mathlib.Core.Bool.{Bool, true, false, cond}
use mathlib.Core.List.{List}
use native.Mathlib.Nat.{mod-lt}
use native.Mathlib.Omega.{arith}
use lib.Dec.{eqb, leb}
use lib.ListN.{set, length-set}
use lib.Seq.{get_or-set_same, get_or-set_other}
use borrow.Author.Tests.{eqb-true, eqb-false}
use Rattle.promise.proofs.Tests.{either}
use Rattle.clock.specs.declared.reading.VirtualLocalTime.{VirtualLocalTime}
use Rattle.admission.specs.Reading.{is_good_reading}
use Rattle.settings.specs.Node.{places}
use Rattle.domain.specs.declared.Domain.{Domain}
use Rattle.domain.specs.Records.{record_at}
use Rattle.master_send.specs.Send.{due_in, send_as}
use Rattle.round.specs.Turn.{turn_of}
use Rattle.node.specs.declared.Node.{Node}
use Rattle.node.specs.Store.{stored_in}
use Rattle.node.specs.Cycle.{is_room_for, gone_from, cycled_by, node_cycle_of}
use Rattle.node_laws.proofs.Laws.{stored_same}
use Rattle.record_words.specs.Fits.{SettingsFit}
use Rattle.record_words.proofs.Back.{BesideSent}
use Rattle.node_words.specs.Words.{record_of}
use Rattle.node_words.specs.Node.{head_word, node_words, RecordFits, NodeFits}
use Rattle.words_cycle.specs.Cycle.{turn_words, went_by, cycled_words}
use Rattle.words_laws.specs.Run.{cycle_words}
use Rattle.words_laws.proofs.Back.{record_back, syncs_back, round_back}
use Rattle.words_laws.proofs.OfNode.{sent_words}
use Rattle.words_laws.proofs.Fits.{After, send_after}
use Rattle.words_laws.proofs.Cycle.{Holds, Alike, went_alike, number_by, cycle_by}
use Rattle.domain.specs.declared.DomainStep.{DomainStep}
use Rattle.frame.specs.declared.values.Sync.{Sync}
use Rattle.master_rules.specs.declared.due.Due.{Due}

-- ---- what fits still fits

by_place :
    (n : Node) → NodeFits n → (at : ℕ) (d : Domain) → at < places → RecordFits d → (i : ℕ) → i < places →
    (b : Bool) → eqb i at ≡ b → RecordFits (record_at (set n.domains at d) i)
by_place n f at d lt new i below true e =
    let same : i ≡ at = eqb-true i at e in
    let there : record_at (set n.domains at d) at ≡ d =
    get_or-set_same n.domains at d _ (omega (arith, f.sixteen)) in
    subst RecordFits (sym (ap (record_at (set n.domains at d)) same ∙ there)) new
by_place n f at d lt new i below false e =
    subst RecordFits (sym (get_or-set_other n.domains at i d _ (eqb-false i at e))) (f.records i below)

pub stored_fits :
    (n : Node) → NodeFits n → (at : ℕ) (d : Domain) → at < places → RecordFits d →
    NodeFits (stored_in n at d n.kept)
stored_fits n f at d lt new =
    record {
      sixteen = length-set n.domains at d ∙ f.sixteen;
      records = λ i below. by_place n f at d lt new i below (eqb i at) refl;
      syncs = f.syncs;
      round = f.round;
    }

pub turn_fits :
    (may : Bool) (d : Domain) (t : VirtualLocalTime) → RecordFits d → RecordFits (turn_of may d t).domain
turn_fits may d t f =
    let a = send_after d t f.state in
    either (λ (s : DomainStep (Option Sync)). RecordFits s.domain) may
    (record {
      state = a.fits;
      settings = subst SettingsFit (sym a.settings) f.settings;
      number = subst (λ (k : ℕ). k < 256) (sym a.number) f.number;
    })
    f

-- ---- a turn on the words of a node

module _ (n : Node) (f : NodeFits n) (at : ℕ) (lt : at < places) (t : VirtualLocalTime) where
  abbrev here : Domain
  here = record_at n.domains at

  abbrev Stored : DomainStep (Option Sync) → Type 0
  Stored s = turn_words s (node_words n) at ≡ node_words (stored_in n at s.domain n.kept)

  rests : Stored (record { answer = None; domain = here })
  rests = sym (ap node_words (stored_same n at (refl, refl)))

  sends : (due : Option Due) → After BesideSent here (send_as due here t).domain → Stored (send_as due here t)
  sends None a = rests
  sends (Some due) a =
      sent_words n f.sixteen at lt _ a.settings a.number a.beside

  turn_words_lem : (may : Bool) → Stored (turn_of may here t)
  turn_words_lem may =
      either Stored may (sends (due_in here t) (send_after here t (f.records at lt).state)) rests

-- ---- so turns on the words of a node are turns on the node

pub record AreWords (words : List ℕ) (n : Node) : Type 0 where
  pub same : words ≡ node_words n
  pub fits : NodeFits n

abbrev Kept : (n : Node) (at : ℕ) (may : Bool) (t : VirtualLocalTime) (words : List ℕ) (d : Domain) → Type 0
Kept n at may t words d =
    AreWords (turn_words (turn_of may d t) words at) (stored_in n at (turn_of may d t).domain n.kept)

kept :
    (n : Node) → NodeFits n → (at : ℕ) → at < places → (may : Bool) (t : VirtualLocalTime) →
    Kept n at may t (node_words n) (record_of (node_words n) at)
kept n f at lt may t =
    subst (Kept n at may t (node_words n)) (sym (record_back n f at lt))
    (record {
      same = turn_words_lem n f at lt t may;
      fits = stored_fits n f at _ lt (turn_fits may (record_at n.domains at) t (f.records at lt));
    })

pub are_words : Holds AreWords
are_words =
    record {
      looks = λ l n at lt r. ap (λ (l : List ℕ). record_of l at) r.same ∙ record_back n r.fits at lt;
      keeps =
          λ l n at lt may t r.
          subst (λ (l : List ℕ). Kept n at may t l (record_of l at)) (sym r.same) (kept n r.fits at lt may t);
    }

-- ---- the main cycle

module _ (n : Node) (f : NodeFits n) (t : ℕ) where
  abbrev reading : VirtualLocalTime
  reading = record { 0 = t }

  abbrev cycled_as : (syncs round : ℕ) → List ℕ
  cycled_as syncs round =
      let w = went_by (node_words n) round reading syncs in
      set (set w.words 0 t) 1 (head_word syncs w.next)

  gone : Alike AreWords n (went_by (node_words n) n.round reading n.syncs_per_cycle) (gone_from n reading)
  gone =
      went_alike are_words places (n.round % places) (mod-lt n.round (omega arith)) 0 n.syncs_per_cycle reading
      (node_words n) n n.round (record { same = refl; fits = f })

  gone_words : cycled_words (node_words n) t ≡ node_words (cycled_by n reading (gone_from n reading)).node
  gone_words =
      (λ i. cycled_as (syncs_back n f i) (round_back n f i))
      ∙ (λ i. set (set (gone.after.same i) 0 t) 1 (head_word n.syncs_per_cycle (gone.next i)))

  words_by :
      (good fits : Bool) →
      cond (eqb (number_by good fits) 0) (cycled_words (node_words n) t) (node_words n)
      ≡ node_words (cycle_by n reading good fits).node
  words_by true true = gone_words
  words_by true false = refl
  words_by false fits = refl

  pub cycle_of_node :
      (room : ℕ) → cycle_words (node_words n) t room ≡ node_words (node_cycle_of n reading room).node
  cycle_of_node room =
      let good = is_good_reading n.kept reading in
      ap (λ (syncs : ℕ). cond (eqb (number_by good (leb (8 * syncs) room)) 0) (cycled_words (node_words n) t)
      (node_words n)) (syncs_back n f)
      ∙ words_by good (is_room_for n room)
