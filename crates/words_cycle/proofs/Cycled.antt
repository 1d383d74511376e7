-- A main cycle's three ends. No contract cites this file.
--   early   refused for its reading
--   short   refused for its room
--   done    its round is gone
-- Assumes nothing.
use Prim.Native.Nat.{ℕ, ◌*◌}
use mathlib.Core.Path.{◌≡◌, refl, ap, ◌∙◌}
use mathlib.Core.Bool.{true, false}
use mathlib.Core.List.{List, [], ◌∷◌}
use lib.Dec.{leb}
use lib.ListN.{length, set}
use Rattle.admission.specs.Reading.{is_good_reading}
use Rattle.node_words.specs.Words.{kept_of}
use Rattle.node_words.specs.Node.{syncs_of, round_of, head_word}
use Rattle.words_cycle.specs.declared.turns.Gone.{Gone}
use Rattle.words_cycle.specs.Cycle.{CycledBy, GoneIn}

module _ (words : List ℕ) (t : ℕ) (before told : List ℕ) where
  pub early :
      (r : ℕ) → r ≡ 1 → is_good_reading (kept_of words) (record { 0 = t }) ≡ false →
      CycledBy words t before told r words before told
  early r er e = rw er (record { number = rw e; words_after = refl; bytes = refl; counts = refl })

  module _ (e : is_good_reading (kept_of words) (record { 0 = t }) ≡ true) where
    pub short :
        (r : ℕ) → r ≡ 12 → leb (8 * syncs_of words) (length before) ≡ false →
        CycledBy words t before told r words before told
    short r er f = rw er (record { number = rw (e, f); words_after = refl; bytes = refl; counts = refl })

    pub done :
        (g : Gone) (after out : List ℕ) (word : ℕ) → leb (8 * syncs_of words) (length before) ≡ true →
        GoneIn words (round_of words) (record { 0 = t }) (syncs_of words) before g after out →
        word ≡ head_word (syncs_of words) g.next →
        CycledBy words t before told 0 (set (set after 0 t) 1 word) out (g.sent ∷ [])
    done g after out word f p ew =
        let next = ew ∙ ap (λ (g : Gone). head_word (syncs_of words) g.next) p.gone in
        record {
          number = rw (e, f);
          words_after = λ i. set (set (p.words_after i) 0 t) 1 (next i);
          bytes = p.bytes;
          counts = ap (λ (g : Gone). g.sent ∷ []) p.gone;
        }
