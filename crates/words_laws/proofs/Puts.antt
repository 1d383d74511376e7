-- The node that words say after a part of a record's state was put. No contract cites this file.
--   head_put, head_record   words before the records: all records are as they were
--   kept_put                the kept reading
--   size_put                a part put into a record's state leaves the size
--   state_put               any part of a record's state, that says the record
--   frame_put               that of a frame; `frame_put_size` for the size, and so on
--   base_put                that of a set
--   sent_put                that of a main cycle and of a confirmation
-- Assumes nothing.
use Prim.Native.Nat.{ℕ, ◌+◌, ◌≤◌, ◌<◌}
use mathlib.Core.Path.{◌≡◌, refl, sym, ap, ◌∙◌}
use mathlib.Core.Bool.{Bool, true, false}
use mathlib.Core.List.{List, [], ◌++◌}
use native.Mathlib.Omega.{arith}
use lib.Dec.{ltb}
use lib.ListN.{length, get_or, set, take, drop, drop_of_length-le}
use lib.Seq.{drop-drop, drop-set-lt, get_or-drop, get_or-set_same, get_or-set_other}
use borrow.Author.Tests.{ltb-true, ltb-false}
use Rattle.settings.specs.declared.domain_settings.DomainSettings.{DomainSettings}
use Rattle.settings.specs.Node.{places}
use Rattle.domain.specs.declared.Domain.{Domain}
use Rattle.node.specs.declared.Node.{Node}
use Rattle.node.specs.Store.{stored_in}
use Rattle.record_words.specs.Packed.{byte4, byte5, byte6}
use Rattle.record_words.specs.Parts.{sending_of}
use Rattle.record_words.specs.Record.{domain_of, state_words}
use Rattle.record_words.specs.Fits.{StateFits}
use Rattle.record_words.proofs.Back.{frame_back, BesideBase, base_back, BesideSent, sent_back}
use Rattle.node_words.specs.Words.{
  node_size,
  settings_at,
  state_at,
  part_of,
  with_part,
  kept_of,
  record_by,
  record_of,
  frame_put,
  base_put,
  sent_put,
}
use Rattle.node_words.specs.Node.{list_by, node_of}
use Rattle.words_laws.proofs.Parts.{
  part_before,
  part_behind,
  part_within,
  one_before,
  length_part,
  length_stored,
  by_same,
  by_set,
}

-- ---- a node by its parts

abbrev node_by : List Domain → (kept head : ℕ) → Node
node_by l kept head =
    record { domains = l; kept = record { 0 = kept }; syncs_per_cycle = byte4 head; round = byte5 head }

record_same :
    (words put : List ℕ) (i : ℕ) → part_of (settings_at i) 11 put ≡ part_of (settings_at i) 11 words →
    part_of (state_at i) 11 put ≡ part_of (state_at i) 11 words → record_of put i ≡ record_of words i
record_same words put i given state =
    ap (λ (l : List ℕ). record_by l (part_of (state_at i) 11 put)) given
    ∙ ap (record_by (part_of (settings_at i) 11 words)) state

node_put :
    (words put : List ℕ) (at : ℕ) → at < places → (e : Domain) → get_or put 0 0 ≡ get_or words 0 0 →
    get_or put 1 0 ≡ get_or words 1 0 → record_of put at ≡ e →
    ((i : ℕ) → (i ≡ at → ⊥) → record_of put i ≡ record_of words i) →
    node_of put ≡ stored_in (node_of words) at e (kept_of words)
node_put words put at lt e zeroth first here others =
    ap (λ (l : List Domain). node_by l (get_or put 0 0) (get_or put 1 0))
    (by_set places (record_of words) (record_of put) 0 at at e lt (omega arith) here others)
    ∙ ap (λ (k : ℕ). node_by (set (list_by places (record_of words) 0) at e) k (get_or put 1 0)) zeroth
    ∙ ap (node_by (set (list_by places (record_of words) 0) at e) (get_or words 0 0)) first

-- ---- the words before the records

pub head_record : (words : List ℕ) (j k : ℕ) → j < 2 → (i : ℕ) → record_of (set words j k) i ≡ record_of words i
head_record words j k lt i =
    record_same words (set words j k) i (ap (take 11) (drop-set-lt (settings_at i) words j k (omega arith)))
    (ap (take 11) (drop-set-lt (state_at i) words j k (omega arith)))

pub head_put :
    (words : List ℕ) (j k : ℕ) → j < 2 →
    list_by places (record_of (set words j k)) 0 ≡ list_by places (record_of words) 0
head_put words j k lt =
    by_same places (record_of words) (record_of (set words j k)) 0 (λ i le. head_record words j k lt i)

pub kept_put :
    (words : List ℕ) → length words ≡ node_size → (k : ℕ) →
    node_of (set words 0 k)
    ≡ record {
      domains = (node_of words).domains;
      kept = record { 0 = k };
      syncs_per_cycle = (node_of words).syncs_per_cycle;
      round = (node_of words).round;
    }
kept_put words size k =
    ap (λ (l : List Domain). node_by l (get_or (set words 0 k) 0 0) (get_or (set words 0 k) 1 0))
    (head_put words 0 k (omega arith))
    ∙ ap (λ (x : ℕ). node_by (list_by places (record_of words) 0) x (get_or (set words 0 k) 1 0))
    (get_or-set_same words 0 k 0 (omega arith))
    ∙ ap (node_by (list_by places (record_of words) 0) k) (get_or-set_other words 0 1 k 0 (λ q. omega arith))

-- ---- a part of a record's state

by_bool : (b : Bool) {P : Type 0} → (b ≡ true → P) → (b ≡ false → P) → P
by_bool true p q = p refl
by_bool false p q = q refl

module _
    (words : List ℕ) (size : length words ≡ node_size) (at : ℕ) (lt : at < places) (j from n : ℕ) (part : List ℕ)
    (is : from ≡ state_at at + j) (many : length part ≡ n) (few : j + n ≤ 11) where
  abbrev put : List ℕ
  put = with_part from n words part

  room : from ≤ length words
  room = omega arith

  pub size_put : length put ≡ node_size
  size_put = length_stored from n words part (omega arith) many ∙ size

  lower : (p : ℕ) → p + 11 ≤ state_at at → part_of p 11 put ≡ part_of p 11 words
  lower p le = part_before from n p 11 words part room (omega arith)

  upper : (p : ℕ) → state_at at + 11 ≤ p → part_of p 11 put ≡ part_of p 11 words
  upper p le = part_behind from n p 11 words part room many (omega arith)

  elsewhere : (i : ℕ) → (i ≡ at → ⊥) → record_of put i ≡ record_of words i
  elsewhere i other =
      by_bool (ltb i at)
      (λ b.
      let h : i < at = ltb-true _ _ b in
      record_same words put i (lower (settings_at i) (omega arith)) (lower (state_at i) (omega arith)))
      (λ b.
      let h : at ≤ i = ltb-false _ _ b in
      let h' : at < i = omega (arith, other) in
      record_same words put i (upper (settings_at i) (omega arith)) (upper (state_at i) (omega arith)))

  abbrev stored : List ℕ
  stored = with_part j n (part_of (state_at at) 11 words) part

  within : part_of (state_at at) 11 put ≡ stored
  within = part_within (state_at at) j from n 11 words part is room many few

  pub state_put :
      (e : Domain) → e.settings ≡ (record_of words at).settings → e.number ≡ (record_of words at).number →
      domain_of e.settings e.number stored ≡ e → node_of put ≡ stored_in (node_of words) at e (kept_of words)
  state_put e settings-is number_is says =
      let here : record_of put at ≡ e =
      ap (λ (l : List ℕ). record_by l (part_of (state_at at) 11 put)) (lower (settings_at at) (omega arith))
      ∙ ap (record_by (part_of (settings_at at) 11 words)) within
      ∙ ap (λ (s : DomainSettings). domain_of s (record_of words at).number stored) (sym settings-is)
      ∙ ap (λ (k : ℕ). domain_of e.settings k stored) (sym number_is)
      ∙ says in
      node_put words put at lt e (one_before from n 0 words part room (omega arith))
      (one_before from n 1 words part room (omega arith)) here elsewhere

-- ---- each call's part

module _ (words : List ℕ) (size : length words ≡ node_size) (at : ℕ) (lt : at < places) (e : Domain) where
  pub frame_put_size : length (frame_put words at e) ≡ node_size
  frame_put_size =
      size_put words size at lt 0 (state_at at) 8 (take 8 (state_words e)) (omega arith) refl (omega arith)

  pub base_put_size : length (base_put words at e) ≡ node_size
  base_put_size =
      size_put words size at lt 4 (state_at at + 4) 3 (take 3 (drop 4 (state_words e))) refl refl (omega arith)

  pub sent_put_size : length (sent_put words at e) ≡ node_size
  sent_put_size = size_put words size at lt 8 (state_at at + 8) 3 (drop 8 (state_words e)) refl refl (omega arith)

module _
    (words : List ℕ) (size : length words ≡ node_size) (at : ℕ) (lt : at < places) (e : Domain)
    (settings-is : e.settings ≡ (record_of words at).settings) (number_is : e.number ≡ (record_of words at).number)
    (fits : StateFits e) where
  abbrev state : List ℕ
  state = part_of (state_at at) 11 words

  eleven : length state ≡ 11
  eleven = length_part (state_at at) 11 words (omega arith)

  pub frame_put_lem :
      e.sending ≡ (record_of words at).sending → e.next_counter ≡ (record_of words at).next_counter →
      node_of (frame_put words at e) ≡ stored_in (node_of words) at e (kept_of words)
  frame_put_lem sending-is next-is =
      let rest = drop 8 state in
      let one : (k : ℕ) → get_or rest k 0 ≡ get_or state (8 + k) 0 = λ k. get_or-drop 8 state k 0 in
      let sending_back : sending_of (get_or rest 0 0) (get_or rest 1 0) (get_or rest 2 0) ≡ e.sending =
      rw (one 0, one 1, one 2) (sym sending-is) in
      let next-back : byte6 (get_or rest 1 0) ≡ e.next_counter = rw (one 1) (sym next-is) in
      state_put words size at lt 0 (state_at at) 8 (take 8 (state_words e)) (omega arith) refl (omega arith) e settings-is
      number_is (frame_back e rest fits sending_back next-back)

  pub base_put_lem :
      BesideBase e (record_of words at) → node_of (base_put words at e) ≡ stored_in (node_of words) at e (kept_of words)
  base_put_lem beside =
      let part = take 3 (drop 4 (state_words e)) in
      let says : domain_of e.settings e.number (with_part 4 3 state part) ≡ e =
      ap (λ (l : List ℕ). domain_of e.settings e.number (take 4 state ++ (part ++ l))) (drop-drop 3 4 state)
      ∙ base_back e _ _ state eleven fits beside in
      state_put words size at lt 4 (state_at at + 4) 3 part refl refl (omega arith) e settings-is number_is says

  pub sent_put_lem :
      BesideSent e (record_of words at) → node_of (sent_put words at e) ≡ stored_in (node_of words) at e (kept_of words)
  sent_put_lem beside =
      let part = drop 8 (state_words e) in
      let none : drop 3 (drop 8 state) ≡ [] =
      drop-drop 3 8 state ∙ drop_of_length-le state {i = 11} (omega (arith, eleven)) in
      let says : domain_of e.settings e.number (with_part 8 3 state part) ≡ e =
      ap (λ (l : List ℕ). domain_of e.settings e.number (take 8 state ++ (part ++ l))) none
      ∙ sent_back e _ _ state eleven fits beside in
      state_put words size at lt 8 (state_at at + 8) 3 part refl refl (omega arith) e settings-is number_is says
