-- Paper 01, "Settings of a node": the settings of one domain. Assumes nothing.
use Rattle.std.specs.Prelude.{ℕ, replicate}
use Rattle.frame.specs.ByteTwo.{counters}
use Rattle.frame.specs.declared.data_ids.DataIds.{DataIds}
use Rattle.frame_check.specs.declared.CheckMode.{CheckMode}
use Rattle.frame_check.specs.declared.CheckMode.TheVariants.{Validated}
use Rattle.settings.specs.declared.domain_settings.DomainSettings.{DomainSettings}
use Rattle.settings.specs.declared.domain_settings.Role.{Role}
use Rattle.settings.specs.declared.domain_settings.Role.TheVariants.{Absent, Slave, Master}
use Rattle.settings.specs.declared.domain_settings.Security.{Security}
use Rattle.settings.specs.declared.domain_settings.Security.TheVariants.{Plain}
use Rattle.settings.specs.declared.domain_settings.UserBytes.{UserBytes}

-- ---- "What isn't read is held as 0.": of an enum the first case, which the type has as 0
abbrev pub absent_held : DomainSettings
absent_held =
    record {
      follow_up_time = 0;
      loss_time = 0;
      future_threshold = 0;
      past_threshold = 0;
      period = 0;
      confirmation_time = 0;
      ids = record { sync = replicate counters 0; fup = replicate counters 0 };
      role = Absent;
      mode = Validated;
      jump_width = 0;
      hysteresis = 0;
      clear_count = 0;
      security = Plain;
      user = record { 0 = 0; 1 = 0; 2 = 0 };
    }

-- ---- a slave's settings, and a master's: what the other role has read is 0
abbrev pub as_slave : (j h f l future past count : ℕ) → CheckMode → DataIds → DomainSettings
as_slave j h f l future past count mode ids =
    record {
      follow_up_time = f;
      loss_time = l;
      future_threshold = future;
      past_threshold = past;
      period = 0;
      confirmation_time = 0;
      ids = ids;
      role = Slave;
      mode = mode;
      jump_width = j;
      hysteresis = h;
      clear_count = count;
      security = Plain;
      user = record { 0 = 0; 1 = 0; 2 = 0 };
    }

abbrev pub as_master : (p c : ℕ) → Security → UserBytes → DataIds → DomainSettings
as_master p c security user ids =
    record {
      follow_up_time = 0;
      loss_time = 0;
      future_threshold = 0;
      past_threshold = 0;
      period = p;
      confirmation_time = c;
      ids = ids;
      role = Master;
      mode = Validated;
      jump_width = 0;
      hysteresis = 0;
      clear_count = 0;
      security = security;
      user = user;
    }

abbrev pub slave_held : DomainSettings → DomainSettings
slave_held s =
    as_slave s.jump_width s.hysteresis s.follow_up_time s.loss_time s.future_threshold
    s.past_threshold s.clear_count s.mode s.ids

abbrev pub master_held : DomainSettings → DomainSettings
master_held s = as_master s.period s.confirmation_time s.security s.user s.ids

abbrev pub held_as : Role → DomainSettings → DomainSettings
held_as Absent s = absent_held
held_as Slave s = slave_held s
held_as Master s = master_held s

abbrev pub held_of : DomainSettings → DomainSettings
held_of s = held_as s.role s

-- ---- settings that no node takes, out of range: a slave with J 0
abbrev pub no_settings : DomainSettings
no_settings = slave_held absent_held
