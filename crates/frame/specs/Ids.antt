-- Paper 01, "Frames": the DataIDs. Assumes nothing.
use Rattle.std.specs.Prelude.{ℕ, ◌%◌, List, get_or}
use Rattle.frame.specs.ByteTwo.{counters}

-- ---- "the DataID that the list for this kind of frame holds at the counter"
abbrev pub id_at : List ℕ → ℕ → ℕ
id_at list counter = get_or list (counter % counters) 0
