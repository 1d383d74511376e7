-- An item of the trial by its first bytes. Assumes nothing.
use Rattle.std.specs.Prelude.{ℕ, ◌+◌, ◌*◌, cond, List, eqb, get_or}
use Rattle.trial_step.specs.declared.item.Item.{Item}
use Rattle.trial_step.specs.declared.item.Item.TheVariants.{Settings, Queue, One, Record}
use Rattle.trial_step.specs.Queue.{frame_bytes}

-- ---- A call record: kind 6 is a queue, kind 7 a frame on one record.
abbrev pub kind_of : (kind : ℕ) → Item
kind_of kind = cond (eqb kind 6) Queue (cond (eqb kind 7) One Record)

-- ---- The mark C7 3A is a call record's, C7 3B that of a settings block.
abbrev pub item_of : List ℕ → Item
item_of bytes =
    cond (eqb (get_or bytes 0 0) 0xC7)
    (cond (eqb (get_or bytes 1 0) 0x3A) (kind_of (get_or bytes 2 0)) (cond (eqb (get_or bytes 1 0) 0x3B) Settings Record))
    Record

-- ---- A settings block has n blocks of 128 bytes, a queue n readings of 8 bytes and its frame bytes behind 20 bytes,
-- any other record 20 bytes.
abbrev pub length_as : Item → List ℕ → ℕ
length_as Settings bytes = 4 + 128 * get_or bytes 3 0
length_as Queue bytes = 20 + 8 * get_or bytes 3 0 + frame_bytes bytes
length_as One bytes = 20
length_as Record bytes = 20

abbrev pub item_length : List ℕ → ℕ
item_length bytes = length_as (item_of bytes) bytes
