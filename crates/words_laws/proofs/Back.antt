-- The words of a node say the node, and what any words say fits. No contract cites this file.
--   node_size         the words of sixteen records, and two
--   record_back       a record in the words of a node
--   syncs_back        S there
--   round_back        and the round
--   node_back         all of the node
--   words_node_fits   any words say a node that fits
--   held_fits         what is held of settings that fit
--   AllFit            sixteen settings that fit
--   fresh_fits        a fresh node of such settings fits
--   new_fits          so does what `new` gives, refused or not
-- Assumes nothing.
use Rattle.std.specs.Prelude.{Err, Ok, ⊤}
use Prim.Native.Nat.{ℕ, zero, suc, ◌+◌, ◌*◌, ◌<◌}
use mathlib.Core.Path.{◌≡◌, refl, sym, ap, subst, ◌∙◌}
use mathlib.Core.List.{List, [], ◌∷◌, ◌++◌}
use native.Mathlib.Omega.{arith}
use lib.ListN.{length, get_or, take, drop, replicate, length-append, get_or-replicate}
use lib.Seq.{drop-drop, drop-append-add}
use Rattle.clock.specs.declared.reading.VirtualLocalTime.{VirtualLocalTime}
use Rattle.settings.specs.declared.domain_settings.DomainSettings.{DomainSettings}
use Rattle.settings.specs.declared.domain_settings.Role.{Role}
use Rattle.settings.specs.declared.domain_settings.Role.TheVariants.{Absent, Slave, Master}
use Rattle.settings.specs.declared.node_settings.NodeSettings.{NodeSettings}
use Rattle.settings.specs.Domain.{absent_held, held_as, held_of}
use Rattle.settings.specs.Node.{places, judged_of}
use Rattle.domain.specs.declared.Domain.{Domain}
use Rattle.domain.specs.Fresh.{fresh_of}
use Rattle.domain.specs.Records.{record_at}
use Rattle.node.specs.declared.Node.{Node}
use Rattle.node.specs.New.{records_of, fresh_node, new_as, new_of}
use Rattle.record_words.specs.Record.{settings_of, number_of, domain_of, settings_words, state_words}
use Rattle.record_words.specs.Fits.{SettingsFit}
use Rattle.record_words.proofs.Unpacked.{unpacked}
use Rattle.record_words.proofs.Back.{state_back, settings_back, number_back, words_fit, settings_fit}
use Rattle.node_words.specs.Words.{node_size, settings_at, state_at, part_of, record_by, record_of}
use Rattle.node_words.specs.Node.{
  list_by,
  syncs_of,
  round_of,
  node_of,
  record_words,
  records_words,
  node_words,
  RecordFits,
  NodeFits,
}
use Rattle.words_laws.proofs.Parts.{by_at}
use Rattle.refusal.specs.Numbers.{Outcome}

-- ---- the size

records_size : (ds : List Domain) → length (records_words ds) ≡ 22 * length ds
records_size [] = refl
records_size (d ∷ rest) =
    omega (arith, length-append (record_words d) (records_words rest), records_size rest)

pub node_size_lem : (n : Node) → length n.domains ≡ places → length (node_words n) ≡ node_size
node_size_lem n sixteen = omega (arith, records_size n.domains)

-- ---- a record in the words of records

records_drop :
    (ds : List Domain) (i from : ℕ) (other : Domain) → i < length ds → from ≡ 22 * i →
    drop from (records_words ds) ≡ record_words (get_or ds i other) ++ records_words (drop (suc i) ds)
records_drop [] i from other h q = absurd (omega arith)
records_drop (d ∷ rest) zero from other h q =
    let first : from ≡ 0 = omega arith in
    ap (λ (k : ℕ). drop k (records_words (d ∷ rest))) first
records_drop (d ∷ rest) (suc i) from other h q =
    let later : from ≡ 22 + 22 * i = omega arith in
    ap (λ (k : ℕ). drop k (records_words (d ∷ rest))) later
    ∙ drop-append-add (record_words d) (records_words rest) (22 * i)
    ∙ records_drop rest i (22 * i) other (omega arith) refl

-- ---- and in those of a node

record_says : (d : Domain) → RecordFits d → record_by (settings_words d.settings d.number) (state_words d) ≡ d
record_says d f =
    let given = settings_words d.settings d.number in
    ap (λ (s : DomainSettings). domain_of s (number_of given) (state_words d))
    (settings_back d.settings d.number f.settings f.number)
    ∙ ap (λ (k : ℕ). domain_of d.settings k (state_words d))
    (number_back d.settings d.number f.settings f.number)
    ∙ state_back d f.state

module _ (n : Node) (f : NodeFits n) (i : ℕ) (lt : i < places) where
  abbrev d : Domain
  d = record_at n.domains i

  abbrev behind : List ℕ
  behind = records_words (drop (suc i) n.domains)

  at_record : drop (settings_at i) (node_words n) ≡ record_words d ++ behind
  at_record =
      sym (drop-drop (22 * i) 2 (node_words n))
      ∙ records_drop n.domains i (22 * i) _ (omega (arith, f.sixteen)) refl

  at_state : drop (state_at i) (node_words n) ≡ state_words d ++ behind
  at_state =
      let later : settings_at i + 11 ≡ state_at i = omega arith in
      sym (drop-drop 11 (settings_at i) (node_words n) ∙ ap (λ (k : ℕ). drop k (node_words n)) later)
      ∙ ap (drop 11) at_record

  pub record_back : record_of (node_words n) i ≡ record_at n.domains i
  record_back =
      ap (λ (l : List ℕ). record_by (take 11 l) (part_of (state_at i) 11 (node_words n))) at_record
      ∙ ap (λ (l : List ℕ). record_by (settings_words d.settings d.number) (take 11 l)) at_state
      ∙ record_says d (f.records i lt)

-- ---- the node

module _ {A : Type 0} where
  by_list :
      (k : ℕ) (f : ℕ → A) (a : ℕ) (l : List A) (other : A) → length l ≡ k →
      ((i at : ℕ) → i < k → a + i ≡ at → f at ≡ get_or l i other) → list_by k f a ≡ l
  by_list zero f a [] other e h = refl
  by_list zero f a (x ∷ xs) other e h = absurd (omega arith)
  by_list (suc k) f a [] other e h = absurd (omega arith)
  by_list (suc k) f a (x ∷ xs) other e h =
      ap (λ (y : A). y ∷ list_by k f (suc a)) (h 0 a (omega arith) (omega arith))
      ∙ ap (λ (l : List A). x ∷ l)
      (by_list k f (suc a) xs other (omega arith) (λ i at lt q. h (suc i) at (omega arith) (omega arith)))

abbrev node_by : List Domain → VirtualLocalTime → (syncs round : ℕ) → Node
node_by l kept syncs round =
    record { domains = l; kept = kept; syncs_per_cycle = syncs; round = round }

pub syncs_back : (n : Node) → NodeFits n → syncs_of (node_words n) ≡ n.syncs_per_cycle
syncs_back n f = (unpacked 0 _ _ 0 0 (omega arith) f.syncs f.round (omega arith) (omega arith)).four

pub round_back : (n : Node) → NodeFits n → round_of (node_words n) ≡ n.round
round_back n f = (unpacked 0 _ _ 0 0 (omega arith) f.syncs f.round (omega arith) (omega arith)).five

records_back : (n : Node) → NodeFits n → list_by places (record_of (node_words n)) 0 ≡ n.domains
records_back n f =
    by_list places (record_of (node_words n)) 0 n.domains _ f.sixteen
    (λ i at lt q.
    let same : at ≡ i = omega arith in
    ap (record_of (node_words n)) same ∙ record_back n f i lt)

pub node_back : (n : Node) → NodeFits n → node_of (node_words n) ≡ n
node_back n f =
    ap (λ (l : List Domain). node_by l n.kept (syncs_of (node_words n)) (round_of (node_words n))) (records_back n f)
    ∙ ap (λ (k : ℕ). node_by n.domains n.kept k (round_of (node_words n))) (syncs_back n f)
    ∙ ap (node_by n.domains n.kept n.syncs_per_cycle) (round_back n f)

-- ---- any words

record_of_fits : (words : List ℕ) (i : ℕ) → RecordFits (record_of words i)
record_of_fits words i =
    let given = part_of (settings_at i) 11 words in
    record {
      state = words_fit (settings_of given) (number_of given) (part_of (state_at i) 11 words);
      settings = settings_fit given;
      number = omega arith;
    }

pub words_node_fits : (words : List ℕ) → NodeFits (node_of words)
words_node_fits words =
    record {
      sixteen = refl;
      records =
          λ i lt.
          subst RecordFits (sym (by_at places (record_of words) 0 i i _ lt (omega arith))) (record_of_fits words i);
      syncs = omega arith;
      round = omega arith;
    }

-- ---- a fresh node: the settings of an absent domain and a fresh state are what no words at all say

held_as_fits : (r : Role) (s : DomainSettings) → SettingsFit s → SettingsFit (held_as r s)
held_as_fits Absent s f = settings_fit []
held_as_fits Slave s f =
    record {
      confirmation = omega arith;
      jump = f.jump;
      hysteresis = f.hysteresis;
      count = f.count;
      user = (omega arith, omega arith, omega arith);
      sync = f.sync;
      fup = f.fup;
    }
held_as_fits Master s f =
    record {
      confirmation = f.confirmation;
      jump = omega arith;
      hysteresis = omega arith;
      count = omega arith;
      user = f.user;
      sync = f.sync;
      fup = f.fup;
    }

pub held_fits : (s : DomainSettings) → SettingsFit s → SettingsFit (held_of s)
held_fits s f = held_as_fits s.role s f

fresh_record_fits : (number : ℕ) (s : DomainSettings) → number < 256 → SettingsFit s → RecordFits (fresh_of number s)
fresh_record_fits number s h f =
    record { state = words_fit (held_of s) number []; settings = held_fits s f; number = h }

length_fresh : (number : ℕ) (l : List DomainSettings) → length (records_of number l) ≡ length l
length_fresh number [] = refl
length_fresh number (s ∷ rest) = ap suc (length_fresh (number + 1) rest)

fresh_records_fit :
    (number : ℕ) (l : List DomainSettings) (other : DomainSettings) (i : ℕ) → i < length l → number + i < 256 →
    SettingsFit (get_or l i other) → RecordFits (record_at (records_of number l) i)
fresh_records_fit number [] other i h few f = absurd (omega arith)
fresh_records_fit number (s ∷ rest) other zero h few f = fresh_record_fits number s (omega arith) f
fresh_records_fit number (s ∷ rest) other (suc i) h few f =
    fresh_records_fit (number + 1) rest other i (omega arith) (omega arith) f

abbrev pub AllFit : List DomainSettings → Type 0
AllFit ds = (i : ℕ) → i < places → SettingsFit (get_or ds i absent_held)

pub fresh_fits :
    (s : ℕ) (ds : List DomainSettings) → s < 256 → length ds ≡ places → AllFit ds → NodeFits (fresh_node s ds)
fresh_fits s ds small sixteen fit =
    record {
      sixteen = length_fresh 0 ds ∙ sixteen;
      records = λ i lt. fresh_records_fit 0 ds absent_held i (omega arith) (omega arith) (fit i lt);
      syncs = small;
      round = omega arith;
    }

absent_fit : AllFit (replicate places absent_held)
absent_fit i lt = subst SettingsFit (sym (get_or-replicate places i absent_held absent_held lt)) (settings_fit [])

new_as_fits :
    (v : Outcome ⊤) (s : NodeSettings) → s.syncs_per_cycle < 256 → length s.domains ≡ places →
    AllFit s.domains → NodeFits (new_as v s).node
new_as_fits (Ok tt) s small sixteen fit = fresh_fits s.syncs_per_cycle s.domains small sixteen fit
new_as_fits (Err refusal) s small sixteen fit =
    fresh_fits 1 (replicate places absent_held) (omega arith) refl absent_fit

pub new_fits :
    (s : NodeSettings) → s.syncs_per_cycle < 256 → length s.domains ≡ places → AllFit s.domains →
    NodeFits (new_of s).node
new_fits s small sixteen fit = new_as_fits (judged_of s) s small sixteen fit
