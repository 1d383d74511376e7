-- Paper 01, "Bench program": what a record asks for. Assumes nothing.
use Rattle.std.specs.Prelude.{ℕ, cond, List, eqb, get_or, replicate, None, Option, Some}
use Rattle.clock.specs.declared.reading.VirtualLocalTime.{VirtualLocalTime}
use Rattle.text.specs.Fields.{word_at, long_at, bytes_at}
use Rattle.node_call.specs.declared.Request.TheVariants.{Frame, Read, Set, Cycle, Confirm}
use Rattle.node_call.specs.declared.Request.{Request}

-- ---- "Kind 1 frame; 2 read; 3 set, payload seconds and nanoseconds, 4 bytes each; 4 main cycle;
-- 5 confirmation, first payload byte the counter."
abbrev pub request_by : (kind : ℕ) → (domain : ℕ) → VirtualLocalTime → List ℕ → Option Request
request_by kind domain t bytes =
    cond (eqb kind 1) (Some (Frame t))
    (cond (eqb kind 2) (Some (Read domain t))
    (cond (eqb kind 3) (Some (Set domain t (word_at bytes 12) (word_at bytes 16)))
    (cond (eqb kind 4) (Some (Cycle t))
    (cond (eqb kind 5) (Some (Confirm domain t (get_or bytes 12 0)))
    None))))

-- ---- "a kind, a domain, the reading (8 bytes)"
abbrev pub request_of : List ℕ → Option Request
request_of bytes = request_by (get_or bytes 2 0) (get_or bytes 3 0) (record { 0 = long_at bytes 4 }) bytes

-- ---- "the mark C7 3A"
abbrev pub asked_by : List ℕ → Option Request
asked_by bytes = cond (eqb (get_or bytes 0 0) 0xC7) (cond (eqb (get_or bytes 1 0) 0x3A) (request_of bytes) None) None

-- ---- "a payload (8 bytes)"
abbrev pub payload_of : List ℕ → List ℕ
payload_of bytes = bytes_at 8 bytes 12

-- ---- What the bench lends: 8 bytes, S being 1.
abbrev pub lent : List ℕ
lent = replicate 8 0
