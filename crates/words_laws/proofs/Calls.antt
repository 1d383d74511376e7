-- Each call on the words of a node is that call on the node that they say. No contract cites this file.
--   frame_answer, set_answer, confirm_answer      the answer is the node's
--   frame_node, set_node, confirm_node            the words after say the node after
--   frame_size, set_size, confirm_size            the words keep their size
--   frame_refused, set_refused, confirm_refused   a refused call leaves every word, but for a frame's 6 and 15
--   confirm_bytes_lem                                 the lent bytes are the node's
--   read_answer                                   a read answers as the node; it leaves the words
-- Assumes nothing.
use Rattle.std.specs.Prelude.{⊤}
use Prim.Native.Nat.{ℕ, ◌%◌, ◌<◌}
use mathlib.Core.Path.{◌≡◌, sym, ap, ◌∙◌}
use mathlib.Core.Bool.{false, ◌||◌}
use mathlib.Core.List.{List}
use native.Mathlib.Nat.{mod-lt}
use native.Mathlib.Omega.{arith}
use lib.Dec.{eqb}
use lib.ListN.{length}
use borrow.Author.Tests.{eqb-false, ne_eqb}
use Rattle.promise.proofs.Tests.{neither}
use Rattle.clock.specs.declared.reading.VirtualLocalTime.{VirtualLocalTime}
use Rattle.frame_read.specs.Read.{named_domain}
use Rattle.frame_laws.specs.RoundTrip.{AreBytes}
use Rattle.refusal.specs.Numbers.{StateStays, Outcome, outcome_number}
use Rattle.settings.specs.Node.{places}
use Rattle.domain.specs.declared.Domain.{Domain}
use Rattle.domain.specs.Records.{record_at}
use Rattle.call_frame.specs.FrameCall.{frame_call_of}
use Rattle.call_read.specs.ReadCall.{read_call_of}
use Rattle.call_set.specs.SetCall.{set_call_of}
use Rattle.call_confirm.specs.ConfirmCall.{confirm_call_of, confirm_bytes}
use Rattle.node.specs.Store.{stored_in}
use Rattle.node.specs.Frame.{addressed_by, node_frame_of}
use Rattle.node.specs.Read.{node_read_of}
use Rattle.node.specs.Set.{node_set_of}
use Rattle.node.specs.Confirm.{node_confirm_of, confirmed_bytes}
use Rattle.node_laws.proofs.Keeps.{refusal_keeps_frame_call, refusal_keeps_set_call, refusal_keeps_confirm_call}
use Rattle.node_words.specs.Words.{node_size, kept_of, record_of}
use Rattle.node_words.specs.Node.{node_of}
use Rattle.words_frame.specs.Frame.{called_in, is_stored, frame_words}
use Rattle.words_call.specs.Calls.{read_by, set_by, set_words, confirm_by, confirm_words}
use Rattle.words_laws.proofs.Fits.{state_fits, given_fits, set_after, confirm_after}
use Rattle.words_laws.proofs.FrameFits.{frame_after}
use Rattle.words_laws.proofs.Stored.{
  looked_up,
  put_by_frame,
  put_by_set,
  put_sent,
  stored_node,
  stored_size,
}
use Rattle.domain.specs.declared.DomainCall.{DomainCall}
use Rattle.frame.specs.declared.values.Fup.{Fup}
use Rattle.slave_answer.specs.declared.Taken.{Taken}

-- ---- a frame

not_stored : (number : ℕ) → is_stored number ≡ false → StateStays number
not_stored n e =
    let most = neither (eqb n 0 || eqb n 6) (eqb n 15) e in
    let two = neither (eqb n 0) (eqb n 6) most.0 in
    (eqb-false n 0 two.0, eqb-false n 6 two.1, eqb-false n 15 most.1)

module _ (words : List ℕ) (t : ℕ) (bytes : List ℕ) where
  abbrev reading : VirtualLocalTime
  reading = record { 0 = t }

  abbrev place : ℕ
  place = addressed_by bytes

  abbrev call : DomainCall (Outcome Taken)
  call = called_in words t bytes

  below : place < places
  below = mod-lt (named_domain bytes) (omega arith)

  node_call : frame_call_of (record_at (node_of words).domains place) (kept_of words) reading bytes ≡ call
  node_call = ap (λ (d : Domain). frame_call_of d (kept_of words) reading bytes) (looked_up words place below)

  pub frame_answer : call.answer ≡ (node_frame_of (node_of words) reading bytes).answer
  frame_answer = sym (ap (λ (c : DomainCall (Outcome Taken)). c.answer) node_call)

  pub frame_node :
      length words ≡ node_size → AreBytes bytes →
      node_of (frame_words words t bytes) ≡ (node_frame_of (node_of words) reading bytes).node
  frame_node size are =
      let d = record_of words place in
      stored_node put_by_frame words size place below (is_stored (outcome_number call.answer)) call.domain
      call.kept
      (frame_after d (kept_of words) reading bytes (state_fits words place) (given_fits words place) are)
      (λ told. refusal_keeps_frame_call d (kept_of words) reading bytes (not_stored _ told))
      ∙ sym (ap (λ (c : DomainCall (Outcome Taken)). stored_in (node_of words) place c.domain c.kept) node_call)

  pub frame_size : length words ≡ node_size → length (frame_words words t bytes) ≡ node_size
  frame_size size =
      stored_size put_by_frame words size place below (is_stored (outcome_number call.answer)) call.domain
      call.kept

  pub frame_refused : StateStays (outcome_number call.answer) → frame_words words t bytes ≡ words
  frame_refused stays =
      let n = outcome_number call.answer in
      rw (ne_eqb n 0 stays.0, ne_eqb n 6 stays.1, ne_eqb n 15 stays.2)

-- ---- calls that name a domain

module _ (words : List ℕ) (domain t : ℕ) where
  abbrev at_time : VirtualLocalTime
  at_time = record { 0 = t }

  abbrev named : ℕ
  named = domain % places

  named_below : named < places
  named_below = mod-lt domain (omega arith)

  same_record : record_at (node_of words).domains named ≡ record_of words named
  same_record = looked_up words named named_below

  pub read_answer : read_by words domain t ≡ node_read_of (node_of words) domain at_time
  read_answer = sym (ap (λ (d : Domain). read_call_of d (kept_of words) domain at_time) same_record)

  -- ---- a set
  module _ (s ns : ℕ) where
    abbrev set_call : DomainCall (Outcome ⊤)
    set_call = set_by words domain t s ns

    node_set : set_call_of (record_at (node_of words).domains named) (kept_of words) domain at_time s ns ≡ set_call
    node_set = ap (λ (d : Domain). set_call_of d (kept_of words) domain at_time s ns) same_record

    pub set_answer : set_call.answer ≡ (node_set_of (node_of words) domain at_time s ns).answer
    set_answer = sym (ap (λ (c : DomainCall (Outcome ⊤)). c.answer) node_set)

    pub set_node :
        length words ≡ node_size →
        node_of (set_words words domain set_call) ≡ (node_set_of (node_of words) domain at_time s ns).node
    set_node size =
        let d = record_of words named in
        stored_node put_by_set words size named named_below (eqb (outcome_number set_call.answer) 0) set_call.domain
        set_call.kept (set_after d (kept_of words) domain at_time s ns (state_fits words named))
        (λ told. refusal_keeps_set_call d (kept_of words) domain at_time s ns (eqb-false _ 0 told))
        ∙ sym (ap (λ (c : DomainCall (Outcome ⊤)). stored_in (node_of words) named c.domain c.kept) node_set)

    pub set_size : length words ≡ node_size → length (set_words words domain set_call) ≡ node_size
    set_size size =
        stored_size put_by_set words size named named_below (eqb (outcome_number set_call.answer) 0)
        set_call.domain set_call.kept

    pub set_refused : (outcome_number set_call.answer ≡ 0 → ⊥) → set_words words domain set_call ≡ words
    set_refused n = rw (ne_eqb (outcome_number set_call.answer) 0 n)

  -- ---- a confirmation
  module _ (counter : ℕ) (out : List ℕ) where
    abbrev confirm_call : DomainCall (Outcome Fup)
    confirm_call = confirm_by words domain t counter (length out)

    node_confirm :
        confirm_call_of (record_at (node_of words).domains named) (kept_of words) domain at_time counter (length out)
        ≡ confirm_call
    node_confirm = ap (λ (d : Domain). confirm_call_of d (kept_of words) domain at_time counter (length out)) same_record

    pub confirm_answer :
        confirm_call.answer ≡ (node_confirm_of (node_of words) domain at_time counter (length out)).answer
    confirm_answer = sym (ap (λ (c : DomainCall (Outcome Fup)). c.answer) node_confirm)

    pub confirm_bytes_lem :
        confirm_bytes confirm_call.answer (record_of words named).settings.ids out
        ≡ confirmed_bytes (node_confirm_of (node_of words) domain at_time counter (length out)).answer (node_of words)
        domain out
    confirm_bytes_lem =
        sym
        (ap (λ (d : Domain). confirm_bytes (confirm_call_of d (kept_of words) domain at_time counter (length out)).answer
        d.settings.ids out) same_record)

    pub confirm_node :
        length words ≡ node_size →
        node_of (confirm_words words domain confirm_call)
        ≡ (node_confirm_of (node_of words) domain at_time counter (length out)).node
    confirm_node size =
        let d = record_of words named in
        stored_node put_sent words size named named_below (eqb (outcome_number confirm_call.answer) 0)
        confirm_call.domain confirm_call.kept
        (confirm_after d (kept_of words) domain at_time counter (length out) (state_fits words named))
        (λ told.
        let k = refusal_keeps_confirm_call d (kept_of words) domain at_time counter out (eqb-false _ 0 told) in
        (k.0, k.1))
        ∙ sym (ap (λ (c : DomainCall (Outcome Fup)). stored_in (node_of words) named c.domain c.kept) node_confirm)

    pub confirm_size : length words ≡ node_size → length (confirm_words words domain confirm_call) ≡ node_size
    confirm_size size =
        stored_size put_sent words size named named_below (eqb (outcome_number confirm_call.answer) 0)
        confirm_call.domain confirm_call.kept

    pub confirm_refused :
        (outcome_number confirm_call.answer ≡ 0 → ⊥) → confirm_words words domain confirm_call ≡ words
    confirm_refused n = rw (ne_eqb (outcome_number confirm_call.answer) 0 n)
