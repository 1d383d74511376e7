-- On the words of a node a put gives the words of the node after. No contract cites this file.
--   frame_words   the part of a frame
--   base_words    that of a set
--   sent_words    that of a main cycle and of a confirmation
--   kept_words    the kept reading
--   head_words    and the round
-- Assumes nothing.
use Prim.Native.Nat.{ℕ, zero, suc, ◌+◌, ◌*◌, ◌<◌}
use mathlib.Core.Path.{◌≡◌, refl, ap, ◌∙◌}
use mathlib.Core.List.{List, [], ◌∷◌, ◌++◌, append_assoc}
use native.Mathlib.Omega.{arith}
use lib.ListN.{length, get_or, set, take, drop}
use lib.Seq.{take-append-add, drop-append-add}
use Rattle.settings.specs.Node.{places}
use Rattle.domain.specs.declared.Domain.{Domain}
use Rattle.domain.specs.Records.{record_at}
use Rattle.node.specs.declared.Node.{Node}
use Rattle.node.specs.Store.{stored_in}
use Rattle.record_words.specs.Record.{state_words}
use Rattle.record_words.proofs.Back.{BesideBase, BesideSent}
use Rattle.node_words.specs.Words.{settings_at, state_at, with_part, frame_put, base_put, sent_put}
use Rattle.node_words.specs.Node.{head_word, record_words, records_words, node_words}

-- ---- a part stored behind others

shift :
    (c j k from : ℕ) (first rest part : List ℕ) → length first ≡ c → from ≡ c + j →
    with_part from k (first ++ rest) part ≡ first ++ with_part j k rest part
shift c j k from first rest part e q =
    let at : from ≡ length first + j = omega arith in
    ap (λ (i : ℕ). with_part i k (first ++ rest) part) at
    ∙ ap (λ (l : List ℕ). l ++ (part ++ drop k (drop (length first + j) (first ++ rest))))
    (take-append-add first rest j)
    ∙ ap (λ (l : List ℕ). (first ++ take j rest) ++ (part ++ drop k l)) (drop-append-add first rest j)
    ∙ append_assoc first (take j rest) (part ++ drop k (drop j rest))

-- ---- a part that makes the words of one record those of another, in the words of records

abbrev Makes : (j k : ℕ) → List ℕ → (d e : Domain) → Type 0
Makes j k part d e = (more : List ℕ) → with_part j k (record_words d ++ more) part ≡ record_words e ++ more

records_put :
    (ds : List Domain) (i j k from : ℕ) (other e : Domain) (part : List ℕ) → i < length ds → from ≡ 22 * i + j →
    Makes j k part (get_or ds i other) e → with_part from k (records_words ds) part ≡ records_words (set ds i e)
records_put [] i j k from other e part h q makes = absurd (omega arith)
records_put (d ∷ rest) zero j k from other e part h q makes =
    let first : from ≡ j = omega arith in
    ap (λ (a : ℕ). with_part a k (records_words (d ∷ rest)) part) first ∙ makes (records_words rest)
records_put (d ∷ rest) (suc i) j k from other e part h q makes =
    shift 22 (22 * i + j) k from (record_words d) (records_words rest) part refl (omega arith)
    ∙ ap (λ (l : List ℕ). record_words d ++ l)
    (records_put rest i j k (22 * i + j) other e part (omega arith) refl makes)

-- ---- each call's part, of any two records that agree beside it

module _ (d e : Domain) (settings-is : e.settings ≡ d.settings) (number_is : e.number ≡ d.number) where
  frame_makes :
      e.sending ≡ d.sending → e.next_counter ≡ d.next_counter → Makes 11 8 (take 8 (state_words e)) d e
  frame_makes sending-is next-is more = rw (settings-is, number_is, sending-is, next-is)

  base_makes : BesideBase e d → Makes 15 3 (take 3 (drop 4 (state_words e))) d e
  base_makes b more = rw (settings-is, number_is, b.pairing, b.last, b.sending, b.user, b.sgw, b.next)

  sent_makes : BesideSent e d → Makes 19 3 (drop 8 (state_words e)) d e
  sent_makes b more =
      rw (settings-is, number_is, b.pairing, b.last, b.base, b.leap, b.updates, b.user, b.sgw)

-- ---- in the words of a node

stored_words :
    (n : Node) → length n.domains ≡ places → (at : ℕ) → at < places → (j k from : ℕ) (part : List ℕ) (e : Domain) →
    from ≡ settings_at at + j → Makes j k part (record_at n.domains at) e →
    with_part from k (node_words n) part ≡ node_words (stored_in n at e n.kept)
stored_words n sixteen at lt j k from part e q makes =
    let head = n.kept.0 ∷ head_word n.syncs_per_cycle n.round ∷ [] in
    shift 2 (22 * at + j) k from head (records_words n.domains) part refl (omega arith)
    ∙ ap (λ (l : List ℕ). head ++ l)
    (records_put n.domains at j k (22 * at + j) _ e part (omega arith) refl makes)

module _
    (n : Node) (sixteen : length n.domains ≡ places) (at : ℕ) (lt : at < places) (e : Domain)
    (settings-is : e.settings ≡ (record_at n.domains at).settings)
    (number_is : e.number ≡ (record_at n.domains at).number) where
  pub frame_words_lem :
      e.sending ≡ (record_at n.domains at).sending →
      e.next_counter ≡ (record_at n.domains at).next_counter →
      frame_put (node_words n) at e ≡ node_words (stored_in n at e n.kept)
  frame_words_lem sending-is next-is =
      stored_words n sixteen at lt 11 8 (state_at at) (take 8 (state_words e)) e (omega arith)
      (frame_makes (record_at n.domains at) e settings-is number_is sending-is next-is)

  pub base_words :
      BesideBase e (record_at n.domains at) → base_put (node_words n) at e ≡ node_words (stored_in n at e n.kept)
  base_words beside =
      stored_words n sixteen at lt 15 3 (state_at at + 4) (take 3 (drop 4 (state_words e))) e (omega arith)
      (base_makes (record_at n.domains at) e settings-is number_is beside)

  pub sent_words :
      BesideSent e (record_at n.domains at) → sent_put (node_words n) at e ≡ node_words (stored_in n at e n.kept)
  sent_words beside =
      stored_words n sixteen at lt 19 3 (state_at at + 8) (drop 8 (state_words e)) e (omega arith)
      (sent_makes (record_at n.domains at) e settings-is number_is beside)

-- ---- the words before the records

pub kept_words :
    (n : Node) (k : ℕ) →
    set (node_words n) 0 k
    ≡ node_words
    (record {
      domains = n.domains;
      kept = record { 0 = k };
      syncs_per_cycle = n.syncs_per_cycle;
      round = n.round;
    })
kept_words n k = refl

pub head_words :
    (n : Node) (r : ℕ) →
    set (node_words n) 1 (head_word n.syncs_per_cycle r)
    ≡ node_words
    (record {
      domains = n.domains;
      kept = n.kept;
      syncs_per_cycle = n.syncs_per_cycle;
      round = r;
    })
head_words n r = refl
