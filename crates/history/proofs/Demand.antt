-- Demand 3, all of it. No contract cites this file.
--   demand_three   the statements of `Demand` hold
-- Assumes nothing.
use Rattle.history.specs.Demand.{DemandThree}
use Rattle.history.proofs.HeardAll.{each_frame_heard}
use Rattle.history.proofs.Confirms.{each_fup_confirms}
use Rattle.history.proofs.Held.{each_time_held}
use Rattle.history.proofs.One.{each_sync_one, each_time_near}
use Rattle.history.proofs.Taken.{each_pair_taken}
use Rattle.history.proofs.Spaced.{each_spaced_taken}

pub demand_three : DemandThree
demand_three =
    record {
      heard = each_frame_heard;
      confirms = each_fup_confirms;
      held = each_time_held;
      one = each_sync_one;
      near = each_time_near;
      taken = each_pair_taken;
      spaced = each_spaced_taken;
    }
