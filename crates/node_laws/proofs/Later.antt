-- A later reading kept: what is good of a record stays so. No contract cites this file.
--   later        a record that is good at a kept reading is good at every later one
--   kept_stays   a kept reading that stays only grows, in its range (`Grows`)
-- Assumes nothing.
use Rattle.std.specs.Prelude.{None, Option, Some}
use Prim.Native.Nat.{ℕ, ◌≤◌}
use mathlib.Core.Logic.{inl, inr}
use native.Mathlib.Omega.{arith}
use Rattle.clock.specs.declared.reading.VirtualLocalTime.{VirtualLocalTime}
use Rattle.settings.specs.declared.domain_settings.Role.{Role}
use Rattle.settings.specs.declared.domain_settings.Role.TheVariants.{Absent, Slave, Master}
use Rattle.domain.specs.declared.Domain.{Domain}
use Rattle.domain.specs.declared.LastSync.{LastSync}
use Rattle.domain.specs.declared.LastSync.TheVariants.{Unknown, Seen}
use Rattle.domain.specs.declared.Sending.{Sending}
use Rattle.domain.specs.declared.Sending.TheVariants.{Never, Open, Confirmed}
use Rattle.node_laws.specs.Good.{HeldWithin, LastWithin, PairWithin, SentWithin, RoleGood, RecordGood}
use Rattle.clock.specs.declared.base.TimeBase.{TimeBase}
use Rattle.domain.specs.declared.Pair.{Pair}

module _ (kept kept' : VirtualLocalTime) (le : kept.0 ≤ kept'.0) where
  held_later : (most : ℕ) (b : Option TimeBase) → HeldWithin most kept b → HeldWithin most kept' b
  held_later most None h = h
  held_later most (Some b) h = (h.0, h.1, omega arith)

  last_later : (h : ℕ) (last : LastSync) → LastWithin kept h last → LastWithin kept' h last
  last_later h Unknown w = w
  last_later h (Seen counter row at) w = (w.0, w.1, omega arith)

  pair_later :
      (f h : ℕ) (last : LastSync) (p : Option Pair) → PairWithin kept f h last p → PairWithin kept' f h last p
  pair_later f h last None w = tt
  pair_later f h last (Some p) (whole, inl own) = (whole, inl own)
  pair_later f h last (Some p) (whole, inr old) = (whole, inr (omega (arith, old)))

  sent_later : (b : Option TimeBase) (next : ℕ) (s : Sending) → SentWithin kept b next s → SentWithin kept' b next s
  sent_later b next Never h = h
  sent_later b next (Open counter seconds nanoseconds at) (set, c, n, s, ns, a) = (set, c, n, s, ns, omega arith)
  sent_later b next (Confirmed at) (set, n, a) = (set, n, omega arith)

  role_later : (r : Role) (d : Domain) → RoleGood r kept d → RoleGood r kept' d
  role_later Absent d g = g
  role_later Slave d g =
      record {
        base = held_later _ d.base g.base;
        last = last_later _ d.last g.last;
        pair = pair_later _ _ d.last d.pairing g.pair;
        order = g.order;
        first = g.first;
        blank = g.blank;
        run = g.run;
        never = g.never;
        next = g.next;
      }
  role_later Master d g =
      record {
        base = held_later _ d.base g.base;
        sent = sent_later d.base d.next_counter d.sending g.sent;
        blank = g.blank;
        waiting = g.waiting;
        unknown = g.unknown;
        stored = g.stored;
      }

pub later :
    (i : ℕ) (kept kept' : VirtualLocalTime) (d : Domain) → kept.0 ≤ kept'.0 → RecordGood i kept d →
    RecordGood i kept' d
later i kept kept' d le g =
    record {
      number = g.number;
      settings = g.settings;
      settings_held = g.settings_held;
      ids = g.ids;
      updates = g.updates;
      role = role_later kept kept' le d.settings.role d g.role;
    }

-- ---- a kept reading that only grows, in its range

abbrev pub Grows : VirtualLocalTime → VirtualLocalTime → Type 0
Grows kept after = (kept.0 ≤ after.0) × (kept.0 ≤ 1000000000000000000 → after.0 ≤ 1000000000000000000)

pub kept_stays : (kept : VirtualLocalTime) → Grows kept kept
kept_stays kept = (omega arith, λ h. h)
