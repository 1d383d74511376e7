-- Paper 01, "A master's domain": a node's main cycle. Assumes nothing.
use Rattle.std.specs.Prelude.{ℕ, ◌*◌, ◌≡◌, Bool, cond, List, leb, length, Err, Ok}
use Rattle.clock.specs.declared.reading.VirtualLocalTime.{VirtualLocalTime}
use Rattle.refusal.specs.declared.Refusal.{Refusal}
use Rattle.refusal.specs.declared.Refusal.TheVariants.{Reading, NoRoom}
use Rattle.admission.specs.Reading.{is_good_reading}
use Rattle.round.specs.Round.{Gone, round_of, pasted}
use Rattle.node.specs.declared.Node.{Node}
use Rattle.node.specs.declared.NodeStep.{NodeStep}
use Rattle.refusal.specs.Numbers.{Outcome}

-- ---- 12 "output buffer .. under 8 times S (main cycle)"
abbrev pub is_room_for : Node → (length : ℕ) → Bool
is_room_for n length = leb (8 * n.syncs_per_cycle) length

abbrev pub gone_from : Node → VirtualLocalTime → Gone
gone_from n t = round_of n.domains n.round t n.syncs_per_cycle

-- ---- "The result gives the number of frames"
abbrev pub cycled_by : Node → VirtualLocalTime → Gone → NodeStep (Outcome ℕ)
cycled_by n t g =
    record {
      answer = Ok (length g.frames);
      node =
          record {
            domains = g.domains;
            kept = t;
            syncs_per_cycle = n.syncs_per_cycle;
            round = g.next;
          };
    }

abbrev pub cycle_refused : Node → Refusal → NodeStep (Outcome ℕ)
cycle_refused n refusal = record { answer = Err refusal; node = n }

-- ---- 1, 12
abbrev pub node_cycle_of : Node → VirtualLocalTime → (length : ℕ) → NodeStep (Outcome ℕ)
node_cycle_of n t length =
    cond (is_good_reading n.kept t)
    (cond (is_room_for n length) (cycled_by n t (gone_from n t)) (cycle_refused n NoRoom))
    (cycle_refused n Reading)

-- ---- "written one after another in that order"; "On success bytes beyond those written stay."
abbrev pub cycle_bytes : Outcome ℕ → Node → VirtualLocalTime → List ℕ → List ℕ
cycle_bytes (Ok count) n t out = pasted 0 (gone_from n t).frames out
cycle_bytes (Err refusal) n t out = out

-- ---- The promise: the call, and every lent byte.
pub record CycledIn (n : Node) (t : VirtualLocalTime) (before : List ℕ) (r : NodeStep (Outcome ℕ)) (after : List ℕ) : Type 0 where
  pub call : r ≡ node_cycle_of n t (length before)
  pub bytes : after ≡ cycle_bytes r.answer n t before
