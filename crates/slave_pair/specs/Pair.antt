-- Paper 01, "A slave's domain": the pair that a SYNC opens. Assumes nothing.
use Rattle.std.specs.Prelude.{ℕ}
use Rattle.clock.specs.declared.reading.VirtualLocalTime.{VirtualLocalTime}
use Rattle.frame.specs.declared.values.Sync.{Sync}
use Rattle.frame.specs.declared.values.Protection.{Protection}
use Rattle.frame.specs.declared.values.Protection.TheVariants.{Plain, Secured}
use Rattle.domain.specs.declared.Pair.{Pair}

-- ---- "one that the frame kind doesn't carry reads 0"
abbrev pub user_in : Protection → ℕ
user_in (Plain user) = user
user_in Secured = 0

-- ---- "an open pair that carries the SYNC's counter, seconds, user bytes and reading T2"
abbrev pub pair_of : VirtualLocalTime → Sync → Pair
pair_of t s =
    record {
      at = t;
      seconds = s.seconds;
      counter = s.counter;
      user0 = s.user0;
      user1 = user_in s.protection;
    }
