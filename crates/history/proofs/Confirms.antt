-- Demand 3, "its confirmation". No contract cites this file.
--   each_fup_confirms   each FUP that is sent stands next after a SYNC with its counter, at most C later
-- Assumes nothing.
use mathlib.Core.Path.{◌≡◌, sym, ◌∙◌, subst}
use mathlib.Core.Bool.{true, true≢false}
use mathlib.Core.List.{List, ◌∷◌}
use native.Mathlib.Omega.{arith}
use Rattle.history.specs.History.{Link, master_settings, Sent, is_fup}
use Rattle.history.specs.Demand.{Confirms, EachFupConfirms}
use Rattle.history.proofs.Row.{Newest, Row, then_sync, then_fup}
use Rattle.history.proofs.Rows.{row_before, sync_bytes, fup_bytes}
use Rattle.history.proofs.Standing.{standing}

-- the newest of a row
confirms_here :
    (k : Link) (s : Newest) (f : Sent) (older : List Sent) → Row (master_settings k) k.domain s (f ∷ older) →
    is_fup f ≡ true → Confirms k f older
confirms_here k s f older (then_sync s' l' r c x a sent) is =
    absurd (true≢false (sym is ∙ (sync_bytes (master_settings k) k.domain c f sent).is_not))
confirms_here k s f older (then_fup c y l' rest r head sent f' fs) is =
    let its = sync_bytes (master_settings k) k.domain c y sent in
    record {
      sync = y;
      rest = rest;
      next = head;
      is_a_sync = its.is;
      counter = omega (arith, (fup_bytes (master_settings k) k.domain c y f fs).counter_in_lem, its.counter_in_lem);
      not_before = fs.later;
      in_time = omega (arith, fs.soon);
    }

pub each_fup_confirms : EachFupConfirms
each_fup_confirms k linked h calls newer older f split is =
    let m = master_settings k in
    let r = standing k linked h calls in
    let here =
    row_before m k.domain newer (f ∷ older) r.latest (subst (Row m k.domain r.latest) split r.row) in
    confirms_here k here.latest f older here.row is
