-- Paper 01, "Settings of a node", and paper 02, requests 3 and 5: the ranges of one domain's settings. Assumes nothing.
use Rattle.std.specs.Prelude.{ℕ, Bool, true, ◌&&◌, leb, ltb}
use Rattle.settings.specs.declared.domain_settings.DomainSettings.{DomainSettings}
use Rattle.settings.specs.declared.domain_settings.Role.{Role}
use Rattle.settings.specs.declared.domain_settings.Role.TheVariants.{Absent, Slave, Master}

-- ---- the table of ranges, "1 to 15" and so on
abbrev pub within : (least most x : ℕ) → Bool
within least most x = leb least x && leb x most

abbrev pub leaps_good : DomainSettings → Bool
leaps_good s =
    leb s.future_threshold 1000000000000
    && leb s.past_threshold 1000000000000
    && within 1 255 s.clear_count

abbrev pub slave_good : DomainSettings → Bool
slave_good s =
    within 1 15 s.jump_width
    && leb s.hysteresis 15
    && within 1 10000000000 s.follow_up_time
    && ltb s.follow_up_time s.loss_time
    && leb s.loss_time 1000000000000
    && leaps_good s

abbrev pub master_good : DomainSettings → Bool
master_good s =
    within 1000000 1000000000000 s.period
    && within 1 3000000000 s.confirmation_time
    && ltb s.confirmation_time s.period

-- ---- "A role's settings are read only for that role; an absent domain's are not read."
abbrev pub is_good_as : Role → DomainSettings → Bool
is_good_as Absent s = true
is_good_as Slave s = slave_good s
is_good_as Master s = master_good s

abbrev pub is_good : DomainSettings → Bool
is_good s = is_good_as s.role s
