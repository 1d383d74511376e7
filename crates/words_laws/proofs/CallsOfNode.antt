-- On the words of a node that fits, the words after a call are the words of the node after it. No contract cites this
-- file.
--   called_words                                  the law that the three calls share
--   frame_of_node, set_of_node, confirm_of_node   the words after are those of the node after
--   frame_fits, set_fits, confirm_fits            and that node fits
-- Assumes nothing.
use Rattle.std.specs.Prelude.{⊤}
use Prim.Native.Nat.{ℕ, ◌%◌, ◌<◌}
use mathlib.Core.Path.{◌≡◌, sym, ap, subst, ◌∙◌}
use mathlib.Core.Bool.{Bool, cond}
use mathlib.Core.List.{List}
use native.Mathlib.Nat.{mod-lt}
use native.Mathlib.Omega.{arith}
use lib.Dec.{eqb}
use lib.ListN.{length}
use Rattle.promise.proofs.Tests.{either}
use Rattle.clock.specs.declared.reading.VirtualLocalTime.{VirtualLocalTime}
use Rattle.frame_read.specs.Read.{named_domain}
use Rattle.frame_laws.specs.RoundTrip.{AreBytes}
use Rattle.settings.specs.Node.{places}
use Rattle.domain.specs.declared.Domain.{Domain}
use Rattle.domain.specs.Records.{record_at}
use Rattle.call_frame.specs.FrameCall.{frame_call_of}
use Rattle.call_set.specs.SetCall.{set_call_of}
use Rattle.call_confirm.specs.ConfirmCall.{confirm_call_of}
use Rattle.node.specs.declared.Node.{Node}
use Rattle.node.specs.Frame.{addressed_by, node_frame_of}
use Rattle.node.specs.Set.{node_set_of}
use Rattle.node.specs.Confirm.{node_confirm_of}
use Rattle.node_laws.specs.Apart.{keeping}
use Rattle.node_words.specs.Words.{node_size}
use Rattle.node_words.specs.Node.{node_of, node_words, NodeFits}
use Rattle.words_frame.specs.Frame.{is_stored, stored_by, frame_words}
use Rattle.words_call.specs.Calls.{set_by, set_words, confirm_by, confirm_words}
use Rattle.words_laws.proofs.Back.{node_size_lem, record_back, node_back, words_node_fits}
use Rattle.words_laws.proofs.OfNode.{frame_words_lem, base_words, sent_words}
use Rattle.words_laws.proofs.Fits.{set_after, confirm_after}
use Rattle.words_laws.proofs.FrameFits.{frame_after}
use Rattle.words_laws.proofs.Calls.{frame_node, set_node, confirm_node}
use Rattle.domain.specs.declared.DomainCall.{DomainCall}
use Rattle.frame.specs.declared.values.Fup.{Fup}
use Rattle.refusal.specs.Numbers.{Outcome, outcome_number}
use Rattle.slave_answer.specs.declared.Taken.{Taken}

module _ (n : Node) (f : NodeFits n) where
  size : length (node_words n) ≡ node_size
  size = node_size_lem n f.sixteen

  -- ---- what a call puts is the words of the node after; where it leaves the words, they say that the node stays
  called_words :
      (b : Bool) {put words : List ℕ} {m : Node} → words ≡ cond b put (node_words n) → put ≡ node_words m →
      node_of words ≡ m → words ≡ node_words m
  called_words b {m = m} called made says =
      called
      ∙ either (λ (l : List ℕ). node_of l ≡ m → l ≡ node_words m) b (λ q. made)
      (λ q. ap node_words (sym (node_back n f) ∙ q)) (ap node_of (sym called) ∙ says)

  -- ---- a frame
  module _ (t : ℕ) (bytes : List ℕ) (are : AreBytes bytes) where
    abbrev reading : VirtualLocalTime
    reading = record { 0 = t }

    abbrev place : ℕ
    place = addressed_by bytes

    abbrev own : Domain
    own = record_at n.domains place

    abbrev call : DomainCall (Outcome Taken)
    call = frame_call_of own n.kept reading bytes

    below : place < places
    below = mod-lt (named_domain bytes) (omega arith)

    frame_says : node_of (frame_words (node_words n) t bytes) ≡ (node_frame_of n reading bytes).node
    frame_says =
        frame_node (node_words n) t bytes size are
        ∙ ap (λ (m : Node). (node_frame_of m reading bytes).node) (node_back n f)

    pub frame_of_node : frame_words (node_words n) t bytes ≡ node_words (node_frame_of n reading bytes).node
    frame_of_node =
        let fits = f.records place below in
        let a = frame_after own n.kept reading bytes fits.state fits.settings are in
        called_words (is_stored (outcome_number call.answer))
        (ap (λ (d : Domain). stored_by (node_words n) place (frame_call_of d n.kept reading bytes))
        (record_back n f place below))
        (frame_words_lem (keeping n call.kept) f.sixteen place below call.domain a.settings a.number
        a.beside.sending a.beside.next)
        frame_says

    pub frame_fits : NodeFits (node_frame_of n reading bytes).node
    frame_fits = subst NodeFits frame_says (words_node_fits (frame_words (node_words n) t bytes))

  -- ---- calls that name a domain
  module _ (domain t : ℕ) where
    abbrev at_time : VirtualLocalTime
    at_time = record { 0 = t }

    abbrev named : ℕ
    named = domain % places

    abbrev asked : Domain
    asked = record_at n.domains named

    named_below : named < places
    named_below = mod-lt domain (omega arith)

    -- ---- a set
    module _ (s ns : ℕ) where
      abbrev set_call : DomainCall (Outcome ⊤)
      set_call = set_call_of asked n.kept domain at_time s ns

      abbrev words_set : List ℕ
      words_set = set_words (node_words n) domain (set_by (node_words n) domain t s ns)

      set_says : node_of words_set ≡ (node_set_of n domain at_time s ns).node
      set_says =
          set_node (node_words n) domain t s ns size
          ∙ ap (λ (m : Node). (node_set_of m domain at_time s ns).node) (node_back n f)

      pub set_of_node :
          set_words (node_words n) domain (set_by (node_words n) domain t s ns)
          ≡ node_words (node_set_of n domain at_time s ns).node
      set_of_node =
          let a = set_after asked n.kept domain at_time s ns (f.records named named_below).state in
          called_words (eqb (outcome_number set_call.answer) 0)
          (ap (λ (d : Domain). set_words (node_words n) domain (set_call_of d n.kept domain at_time s ns))
          (record_back n f named named_below))
          (base_words (keeping n set_call.kept) f.sixteen named named_below set_call.domain a.settings
          a.number a.beside) set_says

      pub set_fits : NodeFits (node_set_of n domain at_time s ns).node
      set_fits = subst NodeFits set_says (words_node_fits words_set)

    -- ---- a confirmation
    module _ (counter : ℕ) (out : List ℕ) where
      abbrev room : ℕ
      room = length out

      abbrev confirm_call : DomainCall (Outcome Fup)
      confirm_call = confirm_call_of asked n.kept domain at_time counter room

      abbrev words_confirmed : List ℕ
      words_confirmed = confirm_words (node_words n) domain (confirm_by (node_words n) domain t counter room)

      confirm_says : node_of words_confirmed ≡ (node_confirm_of n domain at_time counter room).node
      confirm_says =
          confirm_node (node_words n) domain t counter out size
          ∙ ap (λ (m : Node). (node_confirm_of m domain at_time counter room).node) (node_back n f)

      pub confirm_of_node :
          confirm_words (node_words n) domain (confirm_by (node_words n) domain t counter (length out))
          ≡ node_words (node_confirm_of n domain at_time counter (length out)).node
      confirm_of_node =
          let a =
          confirm_after asked n.kept domain at_time counter room (f.records named named_below).state in
          called_words (eqb (outcome_number confirm_call.answer) 0)
          (ap (λ (d : Domain). confirm_words (node_words n) domain
          (confirm_call_of d n.kept domain at_time counter room)) (record_back n f named named_below))
          (sent_words (keeping n confirm_call.kept) f.sixteen named named_below confirm_call.domain
          a.settings a.number a.beside) confirm_says

      pub confirm_fits : NodeFits (node_confirm_of n domain at_time counter (length out)).node
      confirm_fits = subst NodeFits confirm_says (words_node_fits words_confirmed)
