-- Whatever satisfies the promise of a call on words is what `Run` says of it: the number, every word, every lent byte.
-- Assumes nothing.
use Prim.Native.Nat.{ℕ}
use mathlib.Core.Path.{◌≡◌, refl, ap, ◌∙◌}
use mathlib.Core.Bool.{cond}
use mathlib.Core.List.{List}
use lib.Dec.{eqb}
use lib.IntN.{ℤ}
use lib.ListN.{length}
use Rattle.round.specs.Round.{pasted}
use Rattle.node_call.specs.Calls.{Call, frame, read, set, cycle, confirm, call_number, lent_to}
use Rattle.words_frame.specs.Frame.{FramedIn}
use Rattle.words_call.specs.Calls.{ReadIn, SetIn, ConfirmedBy}
use Rattle.words_cycle.specs.Cycle.{went_from, cycled_words, CycledBy}
use Rattle.words_laws.specs.Run.{answer_in, bytes_in, words_after}
use Rattle.words_laws.proofs.Cycle.{cycle_number_lem}

-- ---- A call that answered a number, and left these words and these lent bytes, did what `Run` says.
pub record Does (words : List ℕ) (c : Call) (number : ℕ) (after out : List ℕ) : Type 0 where
  pub numbered : number ≡ call_number (answer_in words c)
  pub words_after : after ≡ words_after words c
  pub bytes : out ≡ bytes_in words c (lent_to c)

pub frame_does :
    (words : List ℕ) (t : ℕ) (bytes : List ℕ) (before : List ℤ) (r : ℕ) (after : List ℕ) (taken : List ℤ) →
    FramedIn words t bytes before r after taken →
    Does words (frame (record { 0 = t }) bytes) r after (lent_to (frame (record { 0 = t }) bytes))
frame_does words t bytes before r after taken p =
    record { numbered = p.number; words_after = p.words_after; bytes = refl }

pub read_does :
    (words : List ℕ) (domain t : ℕ) (before : List ℕ) (r : ℕ) (shown : List ℕ) → ReadIn words domain t before r shown →
    Does words (read domain (record { 0 = t })) r words (lent_to (read domain (record { 0 = t })))
read_does words domain t before r shown p = record { numbered = p.number; words_after = refl; bytes = refl }

pub set_does :
    (words : List ℕ) (domain t s ns : ℕ) (r : ℕ) (after : List ℕ) → SetIn words domain t s ns r after →
    Does words (set domain (record { 0 = t }) s ns) r after (lent_to (set domain (record { 0 = t }) s ns))
set_does words domain t s ns r after p =
    record { numbered = p.number; words_after = p.words_after; bytes = refl }

pub cycle_does :
    (words : List ℕ) (t : ℕ) (before told : List ℕ) (r : ℕ) (after out sent : List ℕ) →
    CycledBy words t before told r after out sent → Does words (cycle (record { 0 = t }) before) r after out
cycle_does words t before told r after out sent p =
    record {
      numbered = p.number ∙ cycle_number_lem words t (length before);
      words_after = p.words_after ∙ ap (λ (n : ℕ). cond (eqb n 0) (cycled_words words t) words) p.number;
      bytes =
          p.bytes ∙ ap (λ (n : ℕ). cond (eqb n 0) (pasted 0 (went_from words t).frames before) before) p.number;
    }

pub confirm_does :
    (words : List ℕ) (domain t counter : ℕ) (before : List ℕ) (r : ℕ) (after out : List ℕ) →
    ConfirmedBy words domain t counter before r after out →
    Does words (confirm domain (record { 0 = t }) counter before) r after out
confirm_does words domain t counter before r after out p =
    record { numbered = p.number; words_after = p.words_after; bytes = p.bytes }
