-- A record's turn. No contract cites this file.
--   rests         one that is not due changes nothing
--   step_rests    so does one whose step does not send
--   step_sends    one whose step sends
--   Turned        what a turn of the round changes
--   over          a turn when as many have sent as a cycle may
--   asked_rests   a turn of one that did not send
--   asked_sends   a turn of one that sent
-- Assumes nothing.
use Rattle.std.specs.Prelude.{None, Option, Some, is_some}
use Prim.Native.Nat.{ℕ, ◌+◌, ◌%◌, ◌≤◌, ◌<◌}
use mathlib.Core.Path.{◌≡◌, refl, sym, ap, ◌∙◌}
use mathlib.Core.Bool.{Bool, true, false, true≢false}
use mathlib.Core.List.{List}
use native.Mathlib.Nat.{mod-eq_of_lt}
use lib.Dec.{ltb}
use borrow.Author.Tests.{lt-ltb, le-ltb}
use Rattle.clock.specs.declared.reading.VirtualLocalTime.{VirtualLocalTime}
use Rattle.frame.specs.declared.values.Sync.{Sync}
use Rattle.settings.specs.Node.{places}
use Rattle.domain.specs.declared.Domain.{Domain}
use Rattle.master_send.specs.Send.{is_due, due_in, send_as, send_of}
use Rattle.round.specs.Turn.{turn_of, next_place, next_after}
use Rattle.round.specs.Round.{frames_by, sent_after, pasted}
use Rattle.node_words.specs.Words.{record_of, sent_put}
use Rattle.words_cycle.specs.Cycle.{has_sent, turn_words, TurnedIn}
use Rattle.domain.specs.declared.DomainStep.{DomainStep}
use Rattle.master_rules.specs.declared.due.Due.{Due}

-- ---- what `turn_in` promises
module _ (words : List ℕ) (at : ℕ) (t : VirtualLocalTime) (before : List ℕ) (sent : ℕ) where
  by_step :
      (s : DomainStep (Option Sync)) (r : Bool) (after out : List ℕ) → s ≡ send_of (record_of words at) t → r ≡ has_sent s.answer →
      after ≡ turn_words s words at →
      out ≡ pasted sent (frames_by s.answer (record_of words at).settings.ids) before →
      TurnedIn words at t before sent r after out
  by_step s r after out e er ew eo =
      record {
        sends = er ∙ ap (λ (s : DomainStep (Option Sync)). has_sent s.answer) e;
        words_after = ew ∙ ap (λ (s : DomainStep (Option Sync)). turn_words s words at) e;
        bytes =
            eo
            ∙ ap (λ (s : DomainStep (Option Sync)). pasted sent (frames_by s.answer (record_of words at).settings.ids) before) e;
      }

  no_step : (due : Option Due) (d : Domain) → is_some due ≡ false → send_as None d t ≡ send_as due d t
  no_step (Some due) d e = absurd (true≢false e)
  no_step None d e = refl

  pub rests : is_due (record_of words at) t ≡ false → TurnedIn words at t before sent false words before
  rests e =
      let d = record_of words at in by_step _ false words before (no_step (due_in d t) d e) refl refl refl

  -- the record d that was taken out, and its step s
  module _ (d : Domain) (s : DomainStep (Option Sync)) (below : at < places) (ed : d ≡ record_of words (at % places))
      (es : s ≡ send_of d t) where
    same : at % places ≡ at
    same = mod-eq_of_lt below

    here : d ≡ record_of words at
    here = ed ∙ ap (record_of words) same

    its : s ≡ send_of (record_of words at) t
    its = es ∙ ap (λ (d : Domain). send_of d t) here

    pub step_rests : s.answer ≡ None → TurnedIn words at t before sent false words before
    step_rests e = by_step s false words before its (rw e) (rw e) (rw e)

    pub step_sends :
        (sync : Sync) (after out : List ℕ) → s.answer ≡ Some sync → after ≡ sent_put words (at % places) s.domain →
        out ≡ pasted sent (frames_by (Some sync) d.settings.ids) before →
        TurnedIn words at t before sent true after out
    step_sends sync after out e ew eo =
        by_step s true after out its (rw e)
        (ew ∙ rw e (ap (λ (p : ℕ). sent_put words p s.domain) same))
        (eo ∙ rw e (ap (λ (d : Domain). pasted sent (frames_by (Some sync) d.settings.ids) before) here))

-- ---- what a turn changes: the words, how many have sent, where the next round starts, the bytes
pub record Turned
    (s : DomainStep (Option Sync)) (words : List ℕ) (at sent next : ℕ) (out words' : List ℕ) (sent' next' : ℕ)
    (out' : List ℕ) : Type 0 where
  pub words_after : words' ≡ turn_words s words at
  pub count : sent' ≡ sent_after s.answer sent
  pub next_one : next' ≡ next_after s.answer at next
  pub bytes : out' ≡ pasted sent (frames_by s.answer (record_of words at).settings.ids) out

counts : (a : Option Sync) (sent : ℕ) → has_sent a ≡ true → sent + 1 ≡ sent_after a sent
counts (Some sync) sent e = refl
counts None sent e = absurd (true≢false (sym e))

next_place_lem :
    (a : Option Sync) (at next : ℕ) → at < places → has_sent a ≡ true → next_place places at ≡ next_after a at next
next_place_lem (Some sync) at next h e = ap (next_place places) (sym (mod-eq_of_lt h))
next_place_lem None at next h e = absurd (true≢false (sym e))

unsent : (a : Option Sync) → has_sent a ≡ false → None ≡ a
unsent (Some sync) e = absurd (true≢false e)
unsent None e = refl

module _ (words : List ℕ) (at sent most next : ℕ) (t : VirtualLocalTime) (out : List ℕ) where
  abbrev pub One : (words' : List ℕ) (sent' next' : ℕ) (out' : List ℕ) → Type 0
  One = Turned (turn_of (ltb sent most) (record_of words at) t) words at sent next out

  pub over : most ≤ sent → One words sent next out
  over h =
      rw (le-ltb sent most h)
      (record { words_after = refl; count = refl; next_one = refl; bytes = refl })

  module _ (r : Bool) (words' out' : List ℕ) (h : sent < most) (p : TurnedIn words at t out sent r words' out') where
    pub asked_rests : r ≡ false → One words' sent next out'
    asked_rests e =
        let no = unsent (send_of (record_of words at) t).answer (sym p.sends ∙ e) in
        rw (lt-ltb sent most h)
        (record {
          words_after = p.words_after;
          count = ap (λ (a : Option Sync). sent_after a sent) no;
          next_one = ap (λ (a : Option Sync). next_after a at next) no;
          bytes = p.bytes;
        })

    pub asked_sends : r ≡ true → at < places → One words' (sent + 1) (next_place places at) out'
    asked_sends e b =
        let a = (send_of (record_of words at) t).answer in
        rw (lt-ltb sent most h)
        (record {
          words_after = p.words_after;
          count = counts a sent (sym p.sends ∙ e);
          next_one = next_place_lem a at next b (sym p.sends ∙ e);
          bytes = p.bytes;
        })
