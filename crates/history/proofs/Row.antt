-- How the frames that a master sends in a domain follow one another. No contract cites this file.
--   SyncSent, FupSent   what is known of a SYNC that was sent, and of the FUP that confirms it
--   Row                 a list of sendings, the newest first, with its newest SYNC
-- Assumes nothing.
use Prim.Native.Nat.{ℕ, ◌+◌, ◌%◌, ◌≤◌, ◌<◌}
use mathlib.Core.Path.{◌≡◌}
use mathlib.Core.Bool.{false}
use mathlib.Core.List.{List, [], ◌∷◌}
use Rattle.frame.specs.declared.values.Sync.{Sync}
use Rattle.frame.specs.declared.values.Fup.{Fup}
use Rattle.frame.specs.declared.values.Frame.TheVariants.{Sync as sync, Fup as fup}
use Rattle.frame_write.specs.Write.{bytes_of}
use Rattle.settings.specs.declared.domain_settings.DomainSettings.{DomainSettings}
use Rattle.master_rules.specs.Sent.{protection_of}
use Rattle.master_follow.specs.Follow.{whole_of, ovs_of}
use Rattle.history.specs.History.{Sent}

-- ---- the values that a master of settings m sends in domain i
abbrev pub sync_values : DomainSettings → (i counter seconds : ℕ) → Sync
sync_values m i counter seconds =
    record {
      domain = i;
      counter = counter;
      user0 = m.user.0;
      seconds = seconds;
      protection = protection_of m.security m.user.1;
    }

abbrev pub fup_values : DomainSettings → (i counter ovs nanoseconds : ℕ) → Fup
fup_values m i counter ovs nanoseconds =
    record {
      domain = i;
      counter = counter;
      sgw = false;
      ovs = ovs;
      nanoseconds = nanoseconds;
      protection = protection_of m.security m.user.2;
    }

-- ---- a SYNC with counter c, and the FUP f that confirms it
pub record SyncSent (m : DomainSettings) (i c : ℕ) (y : Sent) : Type 0 where
  pub bytes : y.bytes ≡ bytes_of m.ids (sync (sync_values m i c y.time.0))
  pub small : c < 16
  pub seconds : y.time.0 ≤ 4294967295
  pub nanoseconds : y.time.1 ≤ 999999999

pub record FupSent (m : DomainSettings) (i c : ℕ) (y f : Sent) : Type 0 where
  pub bytes :
      f.bytes
      ≡ bytes_of m.ids
      (fup (fup_values m i c (ovs_of y.time y.at f.at) (whole_of y.time y.at f.at).1))
  pub later : y.at.0 ≤ f.at.0
  pub soon : f.at.0 ≤ y.at.0 + m.confirmation_time
  pub ovs : ovs_of y.time y.at f.at ≤ 3

-- ---- the newest SYNC of a list: its counter, and it
pub data Newest : Type 0 where
  no_sync : Newest
  newest : (c : ℕ) (y : Sent) → Newest

-- ---- "the next counter, 0 first, 15 then 0"; "at least P has passed since it last sent"
abbrev pub After : DomainSettings → Newest → (c : ℕ) → Sent → Type 0
After m no_sync c y = c ≡ 0
After m (newest c₀ y₀) c y = (c ≡ (c₀ + 1) % 16) × (y₀.at.0 + m.period ≤ y.at.0)

pub data Row (m : DomainSettings) (i : ℕ) : Newest → List Sent → Type 0 where
  none : Row m i no_sync []
  then_sync :
      (s : Newest) (l : List Sent) → Row m i s l → (c : ℕ) (y : Sent) → After m s c y → SyncSent m i c y →
      Row m i (newest c y) (y ∷ l)
  then_fup :
      (c : ℕ) (y : Sent) (l older : List Sent) → Row m i (newest c y) l → l ≡ y ∷ older → SyncSent m i c y →
      (f : Sent) → FupSent m i c y f → Row m i (newest c y) (f ∷ l)
