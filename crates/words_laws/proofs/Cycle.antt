-- A main cycle on the words of a node is the main cycle on the node that they say. No contract cites this file.
--   Holds, Alike     what a turn keeps between words and a node, and what is alike of the two after turns
--   went_alike       so any turns on the two are alike
--   Says, says       that words say a node, which a turn keeps
--   went_says        so any turns on words are those on the node that they say
--   next_small       where the next round starts is below 256
--   head_node        S and the round put into the words
--   cycle_answer     the answer is the node's
--   cycle_node       the words after say the node after
--   cycle_bytes      the lent bytes are the node's
--   cycle_size       the words keep their size
--   cycle_refused    a refused cycle leaves every word
--   cycle_number     its number is that of its answer
-- Assumes nothing.
use Rattle.std.specs.Prelude.{Err, None, Ok, Option, Some}
use Prim.Native.Nat.{ℕ, zero, suc, ◌+◌, ◌*◌, ◌%◌, ◌<◌}
use mathlib.Core.Path.{◌≡◌, refl, sym, ap, subst, ◌∙◌}
use mathlib.Core.Bool.{Bool, true, false, cond}
use mathlib.Core.List.{List, ◌++◌}
use native.Mathlib.Nat.{mod-lt}
use native.Mathlib.Omega.{arith}
use lib.Dec.{eqb, ltb, leb}
use lib.ListN.{length, get_or, set, length-set}
use lib.Seq.{get_or-set_same, get_or-set_other}
use borrow.Author.Tests.{ne_eqb}
use Rattle.promise.proofs.Tests.{either}
use Rattle.clock.specs.declared.reading.VirtualLocalTime.{VirtualLocalTime}
use Rattle.refusal.specs.declared.Refusal.TheVariants.{Reading, NoRoom}
use Rattle.refusal.specs.Numbers.{number_of, Outcome, outcome_number}
use Rattle.admission.specs.Reading.{is_good_reading}
use Rattle.settings.specs.Node.{places}
use Rattle.domain.specs.declared.Domain.{Domain}
use Rattle.domain.specs.Records.{record_at}
use Rattle.master_send.specs.Send.{due_in, send_as}
use Rattle.round.specs.Turn.{turn_of, next_place, next_after}
use Rattle.round.specs.Round.{frames_by, sent_after, Gone, before, goes, pasted}
use Rattle.node.specs.declared.Node.{Node}
use Rattle.node.specs.Store.{stored_in}
use Rattle.node.specs.Cycle.{gone_from, cycled_by, cycle_refused, node_cycle_of, cycle_bytes}
use Rattle.node_laws.proofs.Laws.{stored_same}
use Rattle.record_words.specs.Packed.{byte4, byte5}
use Rattle.record_words.proofs.Back.{BesideSent}
use Rattle.record_words.proofs.Unpacked.{unpacked}
use Rattle.node_words.specs.Words.{node_size, kept_of, record_of}
use Rattle.node_words.specs.Node.{syncs_of, round_of, node_of, head_word}
use Rattle.words_cycle.specs.Cycle.{
  has_sent,
  turn_words,
  Went,
  before as behind,
  goes as goesIn,
  cycle_number_in,
  went_from,
  cycled_words,
}
use Rattle.words_laws.specs.Run.{cycle_answer, cycle_words, cycle_out}
use Rattle.words_laws.proofs.Puts.{head_put, kept_put}
use Rattle.words_laws.proofs.Fits.{After, state_fits, send_after}
use Rattle.words_laws.proofs.Stored.{looked_up, put_sent}
use Rattle.domain.specs.declared.DomainStep.{DomainStep}
use Rattle.frame.specs.declared.values.Sync.{Sync}
use Rattle.master_rules.specs.declared.due.Due.{Due}
use Rattle.node.specs.declared.NodeStep.{NodeStep}

-- ---- turns, for all that a turn keeps between words and a node

abbrev pub with_domains : Node → List Domain → Node
with_domains n ds =
    record { domains = ds; kept = n.kept; syncs_per_cycle = n.syncs_per_cycle; round = n.round }

pub record Holds (R : List ℕ → Node → Type 0) : Type 0 where
  pub looks :
      (words : List ℕ) (n : Node) (at : ℕ) → at < places → R words n →
      record_of words at ≡ record_at n.domains at
  pub keeps :
      (words : List ℕ) (n : Node) (at : ℕ) → at < places → (may : Bool) (t : VirtualLocalTime) → R words n →
      R (turn_words (turn_of may (record_of words at) t) words at)
      (stored_in n at (turn_of may (record_of words at) t).domain n.kept)

pub record Alike (R : List ℕ → Node → Type 0) (n : Node) (w : Went) (g : Gone) : Type 0 where
  pub next : w.next ≡ g.next
  pub frames : w.frames ≡ g.frames
  pub after : R w.words (with_domains n g.domains)

-- the turn of a record d at a place, and the turns that are left
abbrev turned : (turns at sent most : ℕ) → VirtualLocalTime → List Domain → (next : ℕ) → (d : Domain) → Gone
turned turns at sent most t ds next d =
    let s = turn_of (ltb sent most) d t in
    before (frames_by s.answer d.settings.ids)
    (goes turns (next_place places at) (sent_after s.answer sent) most t (set ds at s.domain)
    (next_after s.answer at next))

before_alike :
    {R : List ℕ → Node → Type 0} (frames : List (List ℕ)) (n : Node) (at : ℕ) (d : Domain) (w : Went) (g : Gone) →
    Alike R (stored_in n at d n.kept) w g → Alike R n (behind frames w) (before frames g)
before_alike frames n at d w g a =
    record { next = a.next; frames = ap (λ (l : List (List ℕ)). frames ++ l) a.frames; after = a.after }

module _ {R : List ℕ → Node → Type 0} (holds : Holds R) where
  pub went_alike :
      (turns at : ℕ) → at < places → (sent most : ℕ) (t : VirtualLocalTime) (words : List ℕ) (n : Node) (next : ℕ) →
      R words n → Alike R n (goesIn turns at sent most t words next) (goes turns at sent most t n.domains next)
  unfolding goesIn goes
  went_alike zero at lt sent most t words n next r = record { next = refl; frames = refl; after = r }
  went_alike (suc turns) at lt sent most t words n next r =
      let d = record_of words at in
      let s = turn_of (ltb sent most) d t in
      subst (λ (e : Domain). Alike R n (goesIn (suc turns) at sent most t words next)
      (turned turns at sent most t n.domains next e)) (holds.looks words n at lt r)
      (before_alike (frames_by s.answer d.settings.ids) n at s.domain _ _
      (went_alike turns (next_place places at) (mod-lt (at + 1) (omega arith)) (sent_after s.answer sent) most t
      (turn_words s words at) (stored_in n at s.domain n.kept) (next_after s.answer at next)
      (holds.keeps words n at lt (ltb sent most) t r)))

-- ---- a turn on any words of the size

module _ (words : List ℕ) (size : length words ≡ node_size) (at : ℕ) (lt : at < places) (t : VirtualLocalTime) where
  abbrev here : Domain
  here = record_of words at

  abbrev Stored : DomainStep (Option Sync) → Type 0
  Stored s = node_of (turn_words s words at) ≡ stored_in (node_of words) at s.domain (kept_of words)

  rests : Stored (record { answer = None; domain = here })
  rests = sym (stored_same (node_of words) at (sym (looked_up words at lt), refl))

  sends : (due : Option Due) → After BesideSent here (send_as due here t).domain → Stored (send_as due here t)
  sends None after = rests
  sends (Some due) after = put_sent.says words size at lt _ after

  turn_node : (may : Bool) → Stored (turn_of may here t)
  turn_node may = either Stored may (sends (due_in here t) (send_after here t (state_fits words at))) rests

  turn_size : (s : DomainStep (Option Sync)) → length (turn_words s words at) ≡ node_size
  turn_size s =
      either (λ (l : List ℕ). length l ≡ node_size) (has_sent s.answer) (put_sent.long words size at lt s.domain)
      size

-- ---- so turns on words that say a node are turns on the node

pub record Says (words : List ℕ) (n : Node) : Type 0 where
  pub node : node_of words ≡ n
  pub size : length words ≡ node_size

pub says : Holds Says
says =
    record {
      looks =
          λ words n at lt r. sym (looked_up words at lt) ∙ ap (λ (m : Node). record_at m.domains at) r.node;
      keeps =
          λ words n at lt may t r.
          let s = turn_of may (record_of words at) t in
          record {
            node =
                turn_node words r.size at lt t may
                ∙ ap (λ (m : Node). stored_in m at s.domain m.kept) r.node;
            size = turn_size words r.size at lt t s;
          };
    }

pub went_says :
    (words : List ℕ) → length words ≡ node_size → (turns at : ℕ) → at < places → (sent most : ℕ)
    (t : VirtualLocalTime) (next : ℕ) →
    Alike Says (node_of words) (goesIn turns at sent most t words next)
    (goes turns at sent most t (node_of words).domains next)
went_says words size turns at lt sent most t next =
    went_alike says turns at lt sent most t words (node_of words) next (record { node = refl; size = size })

-- ---- where the next round starts

after_small : (a : Option Sync) (at next : ℕ) → next < 256 → next_after a at next < 256
after_small (Some sync) at next h = omega arith
after_small None at next h = h

pub next_small :
    (turns at sent most : ℕ) (t : VirtualLocalTime) (words : List ℕ) (next : ℕ) → next < 256 →
    (goesIn turns at sent most t words next).next < 256
unfolding goesIn
next_small zero at sent most t words next h = h
next_small (suc turns) at sent most t words next h =
    let s = turn_of (ltb sent most) (record_of words at) t in
    next_small turns (next_place places at) (sent_after s.answer sent) most t (turn_words s words at)
    (next_after s.answer at next) (after_small s.answer at next h)

-- ---- S and the round put into the words

abbrev pub with_head : Node → (syncs round : ℕ) → Node
with_head n syncs round =
    record { domains = n.domains; kept = n.kept; syncs_per_cycle = syncs; round = round }

pub head_node :
    (words : List ℕ) → length words ≡ node_size → (syncs round : ℕ) → syncs < 256 → round < 256 →
    node_of (set words 1 (head_word syncs round)) ≡ with_head (node_of words) syncs round
head_node words size syncs round hs hr =
    let word = head_word syncs round in
    let put : get_or (set words 1 word) 1 0 ≡ word = get_or-set_same words 1 word 0 (omega arith) in
    let back = unpacked 0 syncs round 0 0 (omega arith) hs hr (omega arith) (omega arith) in
    λ i.
    record {
      domains = head_put words 1 word (omega arith) i;
      kept = record { 0 = get_or-set_other words 1 0 word 0 (λ q. omega arith) i };
      syncs_per_cycle = (ap byte4 put ∙ back.four) i;
      round = (ap byte5 put ∙ back.five) i;
    }

abbrev with_kept : Node → (t : ℕ) → Node
with_kept n t =
    record {
      domains = n.domains;
      kept = record { 0 = t };
      syncs_per_cycle = n.syncs_per_cycle;
      round = n.round;
    }

-- ---- the main cycle, by whether the reading is good and whether there is room

abbrev pub number_by : (good fits : Bool) → ℕ
number_by good fits = cond good (cond fits 0 (number_of NoRoom)) (number_of Reading)

abbrev pub cycle_by : Node → VirtualLocalTime → (good fits : Bool) → NodeStep (Outcome ℕ)
cycle_by n t good fits =
    cond good (cond fits (cycled_by n t (gone_from n t)) (cycle_refused n NoRoom)) (cycle_refused n Reading)

module _ (words : List ℕ) (t : ℕ) where
  abbrev reading : VirtualLocalTime
  reading = record { 0 = t }

  abbrev n : Node
  n = node_of words

  abbrev answer_by : (good fits : Bool) → Outcome ℕ
  answer_by good fits =
      cond good (cond fits (Ok (length (went_from words t).frames)) (Err NoRoom)) (Err Reading)

  number_by_lem : (good fits : Bool) → number_by good fits ≡ outcome_number (answer_by good fits)
  number_by_lem true true = refl
  number_by_lem true false = refl
  number_by_lem false fits = refl

  module _ (size : length words ≡ node_size) where
    gone : Alike Says n (went_from words t) (gone_from n reading)
    gone =
        went_says words size places (round_of words % places) (mod-lt (round_of words) (omega arith)) 0 (syncs_of words)
        reading (round_of words)

    gone_node : node_of (cycled_words words t) ≡ (cycled_by n reading (gone_from n reading)).node
    gone_node =
        let w = went_from words t in
        let full = gone.after.size in
        head_node (set w.words 0 t) (length-set w.words 0 t ∙ full) (syncs_of words) w.next (omega arith)
        (next_small places (round_of words % places) 0 (syncs_of words) reading words (round_of words) (omega arith))
        ∙ ap (λ (m : Node). with_head m (syncs_of words) w.next) (kept_put w.words full t)
        ∙ ap (λ (m : Node). with_head (with_kept m t) (syncs_of words) w.next) gone.after.node
        ∙ ap (with_head (with_kept (with_domains n (gone_from n reading).domains) t) (syncs_of words)) gone.next

    gone_size : length (cycled_words words t) ≡ node_size
    gone_size =
        let w = (went_from words t).words in
        length-set (set w 0 t) 1 _ ∙ length-set w 0 t ∙ gone.after.size

    answer_by_lem : (good fits : Bool) → answer_by good fits ≡ (cycle_by n reading good fits).answer
    answer_by_lem true true = ap (λ (frames : List (List ℕ)). Ok (length frames)) gone.frames
    answer_by_lem true false = refl
    answer_by_lem false fits = refl

    node_by :
        (good fits : Bool) →
        node_of (cond (eqb (number_by good fits) 0) (cycled_words words t) words) ≡ (cycle_by n reading good fits).node
    node_by true true = gone_node
    node_by true false = refl
    node_by false fits = refl

    bytes_by :
        (out : List ℕ) (good fits : Bool) →
        cond (eqb (number_by good fits) 0) (pasted 0 (went_from words t).frames out) out
        ≡ cycle_bytes (cycle_by n reading good fits).answer n reading out
    bytes_by out true true = ap (λ (frames : List (List ℕ)). pasted 0 frames out) gone.frames
    bytes_by out true false = refl
    bytes_by out false fits = refl

  -- ---- and with both tests as they are
  abbrev is_good : Bool
  is_good = is_good_reading (kept_of words) reading

  abbrev is_room : (room : ℕ) → Bool
  is_room room = leb (8 * syncs_of words) room

  pub cycle_answer_lem :
      (room : ℕ) → length words ≡ node_size →
      cycle_answer words t room ≡ (node_cycle_of (node_of words) reading room).answer
  cycle_answer_lem room size = answer_by_lem size is_good (is_room room)

  pub cycle_node :
      (room : ℕ) → length words ≡ node_size →
      node_of (cycle_words words t room) ≡ (node_cycle_of (node_of words) reading room).node
  cycle_node room size = node_by size is_good (is_room room)

  pub cycle_bytes_lem :
      (out : List ℕ) → length words ≡ node_size →
      cycle_out words t out
      ≡ cycle_bytes (node_cycle_of (node_of words) reading (length out)).answer (node_of words) reading out
  cycle_bytes_lem out size = bytes_by size out is_good (is_room (length out))

  pub cycle_size : (room : ℕ) → length words ≡ node_size → length (cycle_words words t room) ≡ node_size
  cycle_size room size =
      either (λ (l : List ℕ). length l ≡ node_size) (eqb (cycle_number_in words t room) 0) (gone_size size) size

  pub cycle_refused_lem : (room : ℕ) → (cycle_number_in words t room ≡ 0 → ⊥) → cycle_words words t room ≡ words
  cycle_refused_lem room refused =
      ap (λ (b : Bool). cond b (cycled_words words t) words) (ne_eqb (cycle_number_in words t room) 0 refused)

  pub cycle_number_lem : (room : ℕ) → cycle_number_in words t room ≡ outcome_number (cycle_answer words t room)
  cycle_number_lem room = number_by_lem is_good (is_room room)
