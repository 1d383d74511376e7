-- What is left of a round decides it: the invariant of `go_round`, kept by a turn.
--   goes_turn      a turn, and then the turns that are left
--   Rest           what is left of the turns gives what all of them give
--   onward         and still after one turn
--   at_end         so that with no turn left the round is done
-- Assumes nothing.
use Rattle.std.specs.Prelude.{None, Option, Some}
use Prim.Native.Nat.{ℕ, zero, suc, ◌+◌, ◌≤◌}
use mathlib.Core.Path.{◌≡◌, refl, sym, ap, ◌∙◌}
use mathlib.Core.List.{List, ◌++◌}
use native.Mathlib.Nat.{add-zero}
use native.Mathlib.Omega.{arith}
use lib.Dec.{ltb}
use lib.ListN.{length, set}
use Rattle.clock.specs.declared.reading.VirtualLocalTime.{VirtualLocalTime}
use Rattle.frame.specs.declared.data_ids.DataIds.{DataIds}
use Rattle.settings.specs.Node.{places}
use Rattle.domain.specs.declared.Domain.{Domain}
use Rattle.domain.specs.Records.{record_at}
use Rattle.round.specs.Turn.{turn_of, next_place, next_after}
use Rattle.round.specs.Round.{frames_by, sent_after, Gone, before, goes, round_of, pasted, RoundIn}
use Rattle.domain.specs.declared.DomainStep.{DomainStep}
use Rattle.frame.specs.declared.values.Sync.{Sync}

-- ---- one turn
pub goes_turn :
    (k at sent most : ℕ) (t : VirtualLocalTime) (ds : List Domain) (next : ℕ) →
    let s = turn_of (ltb sent most) (record_at ds at) t in
    goes (suc k) at sent most t ds next
    ≡ before (frames_by s.answer (record_at ds at).settings.ids)
    (goes k (next_place places at) (sent_after s.answer sent) most t (set ds at s.domain)
    (next_after s.answer at next))
unfolding goes
goes_turn k at sent most t ds next = refl

pub pasted_turn :
    (a : Option Sync) (ids : DataIds) (sent : ℕ) (frames : List (List ℕ)) (out : List ℕ) →
    pasted sent (frames_by a ids ++ frames) out
    ≡ pasted (sent_after a sent) frames (pasted sent (frames_by a ids) out)
pasted_turn (Some s) ids sent frames out = refl
pasted_turn None ids sent frames out = refl

pub counted_turn :
    (a : Option Sync) (ids : DataIds) (sent : ℕ) (frames : List (List ℕ)) →
    sent_after a sent + length frames ≡ sent + length (frames_by a ids ++ frames)
counted_turn (Some s) ids sent frames = omega arith
counted_turn None ids sent frames = refl

pub sent_least : (a : Option Sync) (sent : ℕ) → sent_after a sent ≤ sent + 1
sent_least (Some s) sent = omega arith
sent_least None sent = omega arith

-- ---- what is left decides
pub record Rest
    (whole : Gone) (first : List ℕ) (most : ℕ) (t : VirtualLocalTime) (k at sent : ℕ) (ds : List Domain)
    (next : ℕ) (out : List ℕ) : Type 0 where
  pub domains : (goes k at sent most t ds next).domains ≡ whole.domains
  pub next_one : (goes k at sent most t ds next).next ≡ whole.next
  pub count : sent + length (goes k at sent most t ds next).frames ≡ length whole.frames
  pub bytes : pasted sent (goes k at sent most t ds next).frames out ≡ pasted 0 whole.frames first

module _ (whole : Gone) (first : List ℕ) (most : ℕ) (t : VirtualLocalTime) (k at sent : ℕ) (ds : List Domain)
    (next : ℕ) (out : List ℕ) (s : DomainStep (Option Sync)) (d : Domain) (ids : DataIds) (sent' next' : ℕ) (out' : List ℕ)
    (es : s ≡ turn_of (ltb sent most) d t) (ed : d ≡ record_at ds at) (ei : ids ≡ d.settings.ids)
    (ec : sent' ≡ sent_after s.answer sent) (eo : out' ≡ pasted sent (frames_by s.answer ids) out)
    (en : next' ≡ next_after s.answer at next) where
  abbrev one : DomainStep (Option Sync)
  one = turn_of (ltb sent most) (record_at ds at) t

  abbrev left : Gone
  left =
      goes k (next_place places at) (sent_after one.answer sent) most t (set ds at one.domain)
      (next_after one.answer at next)

  told : goes (suc k) at sent most t ds next ≡ before (frames_by one.answer (record_at ds at).settings.ids) left
  told = goes_turn k at sent most t ds next

  pub onward :
      Rest whole first most t (suc k) at sent ds next out →
      Rest whole first most t k (next_place places at) sent' (set ds at s.domain) next' out'
  onward r =
      record {
        domains = rw (ec, en, es, ed) (sym (ap (λ (g : Gone). g.domains) told) ∙ r.domains);
        next_one = rw (ec, en, es, ed) (sym (ap (λ (g : Gone). g.next) told) ∙ r.next_one);
        count =
            rw (ec, en, es, ed)
            (counted_turn one.answer (record_at ds at).settings.ids sent left.frames
            ∙ sym (ap (λ (g : Gone). sent + length g.frames) told) ∙ r.count);
        bytes =
            rw (ec, en, eo, ei, es, ed)
            (sym (pasted_turn one.answer (record_at ds at).settings.ids sent left.frames out)
            ∙ sym (ap (λ (g : Gone). pasted sent g.frames out) told) ∙ r.bytes);
      }

pub at_end :
    (ds₀ : List Domain) (f most : ℕ) (t : VirtualLocalTime) (at sent : ℕ) (ds : List Domain) (next : ℕ)
    (first out : List ℕ) → Rest (round_of ds₀ f t most) first most t zero at sent ds next out →
    RoundIn ds₀ f t most first (record { domains = ds; next = next; sent = sent }) out
unfolding goes
at_end ds₀ f most t at sent ds next first out r =
    record {
      round =
          λ i. record { domains = r.domains i; next = r.next_one i; sent = (sym (add-zero sent) ∙ r.count) i };
      bytes = r.bytes;
    }
