-- What a call leaves of the words: its part put back and the kept reading, or all of them as they were. No contract
-- cites this file.
--   looked_up                                   the node's record at a place is the record of the words there
--   IsPut, put_by_frame, put_by_set, put_sent   a put that says the node with the record stored
--   stored_node                                 the words after a call say the node with the record stored
--   stored_size                                 and keep their size
-- Assumes nothing.
use Prim.Native.Nat.{ℕ, ◌<◌}
use mathlib.Core.Path.{◌≡◌, sym, ap, subst, ◌∙◌}
use mathlib.Core.Bool.{Bool, false, cond}
use mathlib.Core.List.{List}
use native.Mathlib.Omega.{arith}
use lib.ListN.{length, set, length-set}
use Rattle.promise.proofs.Tests.{either, either_told}
use Rattle.clock.specs.declared.reading.VirtualLocalTime.{VirtualLocalTime}
use Rattle.settings.specs.Node.{places}
use Rattle.domain.specs.declared.Domain.{Domain}
use Rattle.domain.specs.Records.{record_at}
use Rattle.node.specs.declared.Node.{Node}
use Rattle.node.specs.Store.{stored_in}
use Rattle.node_laws.proofs.Laws.{stored_same}
use Rattle.record_words.proofs.Back.{BesideBase, BesideSent}
use Rattle.node_words.specs.Words.{node_size, kept_of, record_of, frame_put, base_put, sent_put}
use Rattle.node_words.specs.Node.{node_of}
use Rattle.words_laws.proofs.Parts.{by_at}
use Rattle.words_laws.proofs.Puts.{
  head_record,
  kept_put,
  frame_put_lem,
  frame_put_size,
  base_put_lem,
  base_put_size,
  sent_put_lem,
  sent_put_size,
}
use Rattle.words_laws.proofs.Fits.{BesideFrame, After}

pub looked_up : (words : List ℕ) (at : ℕ) → at < places → record_at (node_of words).domains at ≡ record_of words at
looked_up words at lt = by_at places (record_of words) 0 at at _ lt (omega arith)

-- ---- the three puts, each with what it asks of the record

pub record IsPut
    (Beside : Domain → Domain → Type 0) (put : List ℕ → (at : ℕ) → Domain → List ℕ) : Type 0 where
  pub says :
      (words : List ℕ) → length words ≡ node_size → (at : ℕ) → at < places → (e : Domain) →
      After Beside (record_of words at) e → node_of (put words at e) ≡ stored_in (node_of words) at e (kept_of words)
  pub long :
      (words : List ℕ) → length words ≡ node_size → (at : ℕ) → at < places → (e : Domain) →
      length (put words at e) ≡ node_size

pub put_by_frame : IsPut BesideFrame frame_put
put_by_frame =
    record {
      says =
          λ words size at lt e a.
          frame_put_lem words size at lt e a.settings a.number a.fits a.beside.sending a.beside.next;
      long = frame_put_size;
    }

pub put_by_set : IsPut BesideBase base_put
put_by_set =
    record {
      says = λ words size at lt e a. base_put_lem words size at lt e a.settings a.number a.fits a.beside;
      long = base_put_size;
    }

pub put_sent : IsPut BesideSent sent_put
put_sent =
    record {
      says = λ words size at lt e a. sent_put_lem words size at lt e a.settings a.number a.fits a.beside;
      long = sent_put_size;
    }

-- ---- under a test

module _
    {Beside : Domain → Domain → Type 0} {put : List ℕ → (at : ℕ) → Domain → List ℕ} (is : IsPut Beside put)
    (words : List ℕ) (size : length words ≡ node_size) (at : ℕ) (lt : at < places) (b : Bool) (e : Domain)
    (kept : VirtualLocalTime) where
  abbrev first : List ℕ
  first = set words 0 kept.0

  full : length first ≡ node_size
  full = length-set words 0 kept.0 ∙ size

  put_node : After Beside (record_of words at) e → node_of (put first at e) ≡ stored_in (node_of words) at e kept
  put_node after =
      let same : record_of words at ≡ record_of first at = sym (head_record words 0 kept.0 (omega arith) at) in
      is.says first full at lt e (subst (λ (d : Domain). After Beside d e) same after)
      ∙ ap (λ (n : Node). stored_in n at e n.kept) (kept_put words size kept.0)

  pub stored_node :
      After Beside (record_of words at) e → (b ≡ false → (e ≡ record_of words at) × (kept ≡ kept_of words)) →
      node_of (cond b (put first at e) words) ≡ stored_in (node_of words) at e kept
  stored_node after left =
      either_told (λ (l : List ℕ). node_of l ≡ stored_in (node_of words) at e kept) b (λ told. put_node after)
      (λ told. sym (stored_same (node_of words) at ((left told).0 ∙ sym (looked_up words at lt), (left told).1)))

  pub stored_size : length (cond b (put first at e) words) ≡ node_size
  stored_size = either (λ (l : List ℕ). length l ≡ node_size) b (is.long first full at lt e) size
