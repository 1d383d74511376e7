-- Any call on words is the call on the node that they say, and so are any calls one after another, on every list of
-- 354 words. So what is proved of a node's answers holds of what a product runs.
-- Assumes nothing.
use Prim.Native.Nat.{ℕ}
use mathlib.Core.Path.{◌≡◌, refl, sym, ap, ◌∙◌}
use mathlib.Core.List.{List, [], ◌∷◌}
use lib.ListN.{length}
use Rattle.refusal.specs.Numbers.{StateStays}
use Rattle.node.specs.declared.Node.{Node}
use Rattle.node_call.specs.declared.CallAnswer.TheVariants.{Frame, Read, Set, Cycle, Confirm}
use Rattle.node_call.specs.Calls.{
  Call,
  frame,
  read,
  set,
  cycle,
  confirm,
  node_after,
  answer_of,
  call_number,
  bytes_after,
  lent_to,
  told_by,
  answer_to,
  answers_to,
  node_after_all,
}
use Rattle.node_laws.specs.Reachable.{IsCall, AreCalls}
use Rattle.node_words.specs.Words.{node_size}
use Rattle.node_words.specs.Node.{node_of}
use Rattle.words_laws.specs.Run.{answer_in, bytes_in, words_after, answer_on, answers_on, words_after_all}
use Rattle.words_laws.proofs.Calls.{
  frame_answer,
  frame_node,
  frame_size,
  frame_refused,
  read_answer,
  set_answer,
  set_node,
  set_size,
  set_refused,
  confirm_answer,
  confirm_node,
  confirm_size,
  confirm_refused,
  confirm_bytes_lem,
}
use Rattle.words_laws.proofs.Cycle.{
  cycle_answer_lem,
  cycle_node,
  cycle_size,
  cycle_refused_lem,
  cycle_bytes_lem,
  cycle_number_lem,
}

-- ---- What a call on words shares with the call on the node that they say.
pub record Same (words : List ℕ) (c : Call) : Type 0 where
  pub answer : answer_in words c ≡ answer_of (node_of words) c
  pub bytes : (before : List ℕ) → bytes_in words c before ≡ bytes_after (node_of words) c before
  pub node : node_of (words_after words c) ≡ node_after (node_of words) c
  pub size : length (words_after words c) ≡ node_size

pub same : (words : List ℕ) → length words ≡ node_size → (c : Call) → IsCall c → Same words c
same words size (frame t bytes) is =
    record {
      answer = ap Frame (frame_answer words t.0 bytes);
      bytes = λ before. refl;
      node = frame_node words t.0 bytes size is;
      size = frame_size words t.0 bytes size;
    }
same words size (read domain t) is =
    record {
      answer = ap Read (read_answer words domain t.0);
      bytes = λ before. refl;
      node = refl;
      size = size;
    }
same words size (set domain t s ns) is =
    record {
      answer = ap Set (set_answer words domain t.0 s ns);
      bytes = λ before. refl;
      node = set_node words domain t.0 s ns size;
      size = set_size words domain t.0 s ns size;
    }
same words size (cycle t out) is =
    record {
      answer = ap Cycle (cycle_answer_lem words t.0 (length out) size);
      bytes = λ before. cycle_bytes_lem words t.0 out size;
      node = cycle_node words t.0 (length out) size;
      size = cycle_size words t.0 (length out) size;
    }
same words size (confirm domain t counter out) is =
    record {
      answer = ap Confirm (confirm_answer words domain t.0 counter out);
      bytes = λ before. confirm_bytes_lem words domain t.0 counter out;
      node = confirm_node words domain t.0 counter out size;
      size = confirm_size words domain t.0 counter out size;
    }

-- ---- Demand 1 on words: a refused call leaves every word, to the bit; 6 and 15 keep a row.
pub refused_same : (words : List ℕ) (c : Call) → StateStays (call_number (answer_in words c)) → words_after words c ≡ words
refused_same words (frame t bytes) stays = frame_refused words t.0 bytes stays
refused_same words (read domain t) stays = refl
refused_same words (set domain t s ns) stays = set_refused words domain t.0 s ns stays.0
refused_same words (cycle t out) stays =
    cycle_refused_lem words t.0 (length out) (λ e. stays.0 (sym (cycle_number_lem words t.0 (length out)) ∙ e))
refused_same words (confirm domain t counter out) stays = confirm_refused words domain t.0 counter out stays.0

-- ---- Calls one after another.
pub same_answer :
    (words : List ℕ) → length words ≡ node_size → (c : Call) → IsCall c →
    answer_on words c ≡ answer_to (node_of words) c
same_answer words size c is =
    let s = same words size c is in
    λ i. told_by (s.answer i) (s.bytes (lent_to c) i)

pub same_answers :
    (words : List ℕ) → length words ≡ node_size → (cs : List Call) → AreCalls cs →
    answers_on words cs ≡ answers_to (node_of words) cs
same_answers words size [] are = refl
same_answers words size (c ∷ rest) are =
    let s = same words size c are.0 in
    let here = same_answer words size c are.0 in
    let then =
    same_answers (words_after words c) s.size rest are.1 ∙ ap (λ (n : Node). answers_to n rest) s.node in
    λ i. here i ∷ then i

pub same_node :
    (words : List ℕ) → length words ≡ node_size → (cs : List Call) → AreCalls cs →
    node_of (words_after_all words cs) ≡ node_after_all (node_of words) cs
same_node words size [] are = refl
same_node words size (c ∷ rest) are =
    let s = same words size c are.0 in
    same_node (words_after words c) s.size rest are.1 ∙ ap (λ (n : Node). node_after_all n rest) s.node
