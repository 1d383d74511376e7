-- Paper 01, "Settings of a node": those of the days and of the edges; a reading in milliseconds, and the calls that
-- they share. Assumes nothing.
use Rattle.std.specs.Prelude.{ℕ, ◌+◌, ◌*◌, List, replicate, set as put}
use Rattle.clock.specs.declared.reading.VirtualLocalTime.{VirtualLocalTime}
use Rattle.frame.specs.declared.data_ids.DataIds.{DataIds}
use Rattle.frame_check.specs.declared.CheckMode.{CheckMode}
use Rattle.frame_check.specs.declared.CheckMode.TheVariants.{NotValidated}
use Rattle.settings.specs.declared.domain_settings.DomainSettings.{DomainSettings}
use Rattle.settings.specs.declared.domain_settings.Security.TheVariants.{Plain}
use Rattle.settings.specs.Domain.{absent_held, as_slave, as_master}
use Rattle.settings.specs.Node.{places}
use Rattle.node_call.specs.Calls.{frame, set, cycle, confirm}
use Rattle.history.specs.History.{Link, Event, at_master, at_slave}
use Rattle.history.specs.Demand.{Copy}

-- ---- a slave: J, H, F, L, its check mode, its DataIDs; leaps not checked
abbrev pub slave_for : (j h f l : ℕ) → CheckMode → DataIds → DomainSettings
slave_for j h f l mode ids = as_slave j h f l 0 0 1 mode ids

-- ---- sixteen domains, all absent; DataIDs all 0
abbrev pub absents : List DomainSettings
absents = replicate places absent_held

abbrev pub no_ids : DataIds
no_ids = absent_held.ids

-- ---- milliseconds, as nanoseconds and as a reading
abbrev pub millis : ℕ → ℕ
millis n = n * 1000000

abbrev pub ms : ℕ → VirtualLocalTime
ms n = record { 0 = millis n }

-- ---- a copy: the frame, the readings of its sending and arrival in milliseconds, and the master's time at its sending
abbrev pub copy_of : List ℕ → (sent arrived seconds nanoseconds : ℕ) → Copy
copy_of bytes sent arrived seconds nanoseconds =
    record {
      of = record { bytes = bytes; at = ms sent; time = record { 0 = seconds; 1 = nanoseconds } };
      at = ms arrived;
    }

-- ---- a frame call of the slave, and a confirmation of the master
abbrev pub arrives : (t : ℕ) → List ℕ → Event
arrives t bytes = at_slave (frame (ms t) bytes)

abbrev pub confirms_in : (domain t counter : ℕ) → Event
confirms_in domain t counter = at_master (confirm domain (ms t) counter (replicate 8 0))

-- ---- domain 0 alone, plain frames, J 1, one clock; H, and P, E, F, L and C in milliseconds
abbrev pub row_link : (h p e f l c : ℕ) → Link
row_link h p e f l c =
    record {
      master =
          record {
            syncs_per_cycle = 1;
            domains = put absents 0 (as_master (millis p) (millis c) Plain (record { 0 = 0; 1 = 0; 2 = 0 }) no_ids);
          };
      slave =
          record {
            syncs_per_cycle = 1;
            domains = put absents 0 (slave_for 1 h (millis f) (millis l) NotValidated no_ids);
          };
      domain = 0;
      master_adds = 0;
      slave_adds = 0;
      e = millis e;
    }

-- ---- H 0
abbrev pub plain_link : (p e f l c : ℕ) → Link
plain_link = row_link 0

-- ---- The domain is set to 1000 s at 1 s. SYNC n is sent at 1 s and n periods of p ms.
abbrev pub sets : Event
sets = at_master (set 0 (ms 1000) 1000 0)

abbrev pub sync_after : (p n : ℕ) → Event
sync_after p n = at_master (cycle (ms (1000 + p * n)) (replicate 8 0))
