-- What is left of a round decides it: the invariant of `go_in`, kept by a turn.
--   Rest       what is left of the turns gives what all of them give
--   onward     and still after one turn
--   at_end     so that with no turn left the round is done
-- Assumes nothing.
use Rattle.std.specs.Prelude.{Option}
use Prim.Native.Nat.{ℕ, zero, suc, ◌+◌}
use mathlib.Core.Path.{◌≡◌, refl, sym, ap, ◌∙◌}
use mathlib.Core.List.{List}
use native.Mathlib.Nat.{add-zero}
use lib.Dec.{ltb}
use lib.ListN.{length}
use Rattle.clock.specs.declared.reading.VirtualLocalTime.{VirtualLocalTime}
use Rattle.frame.specs.declared.data_ids.DataIds.{DataIds}
use Rattle.settings.specs.Node.{places}
use Rattle.round.specs.Turn.{turn_of, next_place, next_after}
use Rattle.round.specs.Round.{frames_by, sent_after, pasted}
use Rattle.node_words.specs.Words.{record_of}
use Rattle.round.proofs.Rest.{pasted_turn, counted_turn}
use Rattle.words_cycle.specs.Cycle.{turn_words, Went, before, goes, went_by, GoneIn}
use Rattle.words_cycle.proofs.Turned.{One}
use Rattle.domain.specs.declared.DomainStep.{DomainStep}
use Rattle.frame.specs.declared.values.Sync.{Sync}

-- ---- what is left decides
pub record Rest
    (whole : Went) (first : List ℕ) (most : ℕ) (t : VirtualLocalTime) (k at sent : ℕ) (words : List ℕ)
    (next : ℕ) (out : List ℕ) : Type 0 where
  pub words_after : (goes k at sent most t words next).words ≡ whole.words
  pub next_one : (goes k at sent most t words next).next ≡ whole.next
  pub count : sent + length (goes k at sent most t words next).frames ≡ length whole.frames
  pub bytes : pasted sent (goes k at sent most t words next).frames out ≡ pasted 0 whole.frames first

module _ (whole : Went) (first : List ℕ) (most : ℕ) (t : VirtualLocalTime) (k at sent : ℕ) (words : List ℕ)
    (next : ℕ) (out words' : List ℕ) (sent' next' : ℕ) (out' : List ℕ)
    (p : One words at sent most next t out words' sent' next' out') where
  abbrev one : DomainStep (Option Sync)
  one = turn_of (ltb sent most) (record_of words at) t

  abbrev ids : DataIds
  ids = (record_of words at).settings.ids

  abbrev left : Went
  left =
      goes k (next_place places at) (sent_after one.answer sent) most t (turn_words one words at)
      (next_after one.answer at next)

  told : goes (suc k) at sent most t words next ≡ before (frames_by one.answer ids) left
  unfolding goes
  told = refl

  pub onward :
      Rest whole first most t (suc k) at sent words next out →
      Rest whole first most t k (next_place places at) sent' words' next' out'
  onward r =
      record {
        words_after =
            rw (p.count, p.next_one, p.words_after) (sym (ap (λ (g : Went). g.words) told) ∙ r.words_after);
        next_one = rw (p.count, p.next_one, p.words_after) (sym (ap (λ (g : Went). g.next) told) ∙ r.next_one);
        count =
            rw (p.count, p.next_one, p.words_after)
            (counted_turn one.answer ids sent left.frames
            ∙ sym (ap (λ (g : Went). sent + length g.frames) told) ∙ r.count);
        bytes =
            rw (p.count, p.next_one, p.words_after, p.bytes)
            (sym (pasted_turn one.answer ids sent left.frames out)
            ∙ sym (ap (λ (g : Went). pasted sent g.frames out) told) ∙ r.bytes);
      }

pub at_end :
    (words₀ : List ℕ) (f most : ℕ) (t : VirtualLocalTime) (at sent : ℕ) (words : List ℕ) (next : ℕ)
    (first out : List ℕ) → Rest (went_by words₀ f t most) first most t zero at sent words next out →
    GoneIn words₀ f t most first (record { next = next; sent = sent }) words out
unfolding goes
at_end words₀ f most t at sent words next first out r =
    record {
      gone = λ i. record { next = r.next_one i; sent = (sym (add-zero sent) ∙ r.count) i };
      words_after = r.words_after;
      bytes = r.bytes;
    }
