-- Paper 01, "A master's domain": main cycle. "Starting after the domain served last (from 0 in a fresh
-- node) and going round once, the first S due domains send." Assumes nothing.
use Rattle.std.specs.Prelude.{ℕ, zero, suc, ◌+◌, ◌*◌, ◌%◌, ◌≡◌, cond, List, [], ◌∷◌, ◌++◌, ltb, length, set, None, Option, Some}
use Rattle.clock.specs.declared.reading.VirtualLocalTime.{VirtualLocalTime}
use Rattle.frame.specs.declared.data_ids.DataIds.{DataIds}
use Rattle.frame.specs.declared.values.Frame.TheVariants.{Sync as sync}
use Rattle.frame_write.specs.Write.{bytes_of, is_room, written_in}
use Rattle.settings.specs.Node.{places}
use Rattle.domain.specs.declared.Domain.{Domain}
use Rattle.round.specs.Turn.{turn_of, next_place, next_after}
use Rattle.round.specs.declared.Round.{Round}
use Rattle.domain.specs.Records.{record_at}
use Rattle.frame.specs.declared.values.Sync.{Sync}

-- ---- what a turn sends: its frame, or nothing
abbrev pub frames_by : Option Sync → DataIds → List (List ℕ)
frames_by (Some s) ids = bytes_of ids (sync s) ∷ []
frames_by None ids = []

abbrev pub sent_after : Option Sync → ℕ → ℕ
sent_after (Some s) sent = sent + 1
sent_after None sent = sent

-- ---- The records after some turns, where the next round starts, and the frames sent.
pub record Gone : Type 0 where
  pub domains : List Domain
  pub next : ℕ
  pub frames : List (List ℕ)

abbrev pub before : List (List ℕ) → Gone → Gone
before frames g = record { domains = g.domains; next = g.next; frames = frames ++ g.frames }

-- ---- The turns of a round from place `at` on, `sent` of `most` having sent before them.
unfoldable pub goes : (turns at sent most : ℕ) → VirtualLocalTime → List Domain → (next : ℕ) → Gone
goes zero at sent most t ds next = record { domains = ds; next = next; frames = [] }
goes (suc turns) at sent most t ds next =
    let s = turn_of (ltb sent most) (record_at ds at) t in
    before (frames_by s.answer (record_at ds at).settings.ids)
    (goes turns (next_place places at) (sent_after s.answer sent) most t (set ds at s.domain)
    (next_after s.answer at next))

abbrev pub round_of : List Domain → (first : ℕ) → VirtualLocalTime → (most : ℕ) → Gone
round_of ds first t most = goes places (first % places) 0 most t ds first

-- ---- "written one after another in that order": from frame number `sent` on
abbrev pub put_at : List ℕ → ℕ → List ℕ → List ℕ
put_at frame sent out = cond (is_room (8 * sent) out) (written_in frame (8 * sent) out) out

abbrev pub pasted : (sent : ℕ) → List (List ℕ) → List ℕ → List ℕ
pasted sent [] out = out
pasted sent (frame ∷ frames) out = pasted (sent + 1) frames (put_at frame sent out)

pub record PutAt
    (answer : Option Sync) (ids : DataIds) (sent : ℕ) (before : List ℕ) (r : ℕ) (after : List ℕ) : Type 0 where
  pub count : r ≡ sent_after answer sent
  pub bytes : after ≡ pasted sent (frames_by answer ids) before

-- ---- "The result gives the number of frames"
abbrev pub counted_of : Gone → Round
counted_of g = record { domains = g.domains; next = g.next; sent = length g.frames }

pub record RoundIn
    (ds : List Domain) (first : ℕ) (t : VirtualLocalTime) (most : ℕ) (before : List ℕ)
    (r : Round) (after : List ℕ) : Type 0 where
  pub round : r ≡ counted_of (round_of ds first t most)
  pub bytes : after ≡ pasted 0 (round_of ds first t most).frames before
