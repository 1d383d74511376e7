-- Paper 01, "A master's domain": main cycle. "Starting after the domain served last (from 0 in a fresh
-- node) and going round once, the first S due domains send." "The result gives the number of frames,
-- written one after another in that order." A round told by the places it serves, and not turn by turn.
-- Assumes nothing.
use Rattle.std.specs.Prelude.{ℕ, zero, suc, ◌%◌, ◌≡◌, ◌≢◌, Bool, cond, length, take}
use mathlib.Core.List.{List, [], ◌∷◌, flat_map}
use Rattle.clock.specs.declared.reading.VirtualLocalTime.{VirtualLocalTime}
use Rattle.settings.specs.Node.{places}
use Rattle.domain.specs.declared.Domain.{Domain}
use Rattle.master_send.specs.Send.{is_due, send_of}
use Rattle.domain.specs.Records.{record_at}
use Rattle.round.specs.Turn.{next_place}
use Rattle.round.specs.Round.{frames_by, Gone}

-- ---- "going round": as many places as there are turns, from place `at` on, of n
abbrev pub walk : (n turns at : ℕ) → List ℕ
walk n zero at = []
walk n (suc turns) at = at ∷ walk n turns (next_place n at)

-- ---- of some places those that are due, in their order
abbrev pub due_among : (due : ℕ → Bool) → List ℕ → List ℕ
due_among due [] = []
due_among due (p ∷ ps) = cond (due p) (p ∷ due_among due ps) (due_among due ps)

-- ---- "Starting after the domain served last .. and going round once, the first S due domains"
abbrev pub served_of : List Domain → (first : ℕ) → VirtualLocalTime → (most : ℕ) → List ℕ
served_of ds first t most =
    take most (due_among (λ (p : ℕ). is_due (record_at ds p) t) (walk places places (first % places)))

-- ---- P of each of a list; a place that is none of some; places of which none stands there twice
abbrev pub Each : {A : Type 0} → (A → Type 0) → List A → Type 0
Each P [] = Unit {0}
Each P (x ∷ xs) = P x × Each P xs

abbrev pub NotIn : ℕ → List ℕ → Type 0
NotIn p ps = Each (λ (q : ℕ). q ≢ p) ps

abbrev pub AllApart : List ℕ → Type 0
AllApart [] = Unit {0}
AllApart (p ∷ ps) = NotIn p ps × AllApart ps

-- ---- the place after that served last; as it was where none is served
abbrev pub next_behind : (n : ℕ) → List ℕ → (next : ℕ) → ℕ
next_behind n [] next = next
next_behind n (p ∷ ps) next = next_behind n ps (next_place n p)

-- ---- the frame of a domain that sends
abbrev pub frame_by : Domain → VirtualLocalTime → List (List ℕ)
frame_by d t = frames_by (send_of d t).answer d.settings.ids

-- ---- A round that serves these places in their order, each once, and no other.
pub record Serves
    (ds : List Domain) (first : ℕ) (t : VirtualLocalTime) (served : List ℕ) (g : Gone) : Type 0 where
  pub once : AllApart served
  pub sends : Each (λ (p : ℕ). record_at g.domains p ≡ (send_of (record_at ds p) t).domain) served
  pub stays : (p : ℕ) → NotIn p served → record_at g.domains p ≡ record_at ds p
  pub size : length g.domains ≡ length ds
  pub next_one : g.next ≡ next_behind places served first
  pub frames : g.frames ≡ flat_map (λ (p : ℕ). frame_by (record_at ds p) t) served
  pub count : length g.frames ≡ length served

abbrev pub FirstDue : List Domain → (first : ℕ) → VirtualLocalTime → (most : ℕ) → Gone → Type 0
FirstDue ds first t most g = Serves ds first t (served_of ds first t most) g
