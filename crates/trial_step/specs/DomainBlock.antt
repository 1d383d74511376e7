-- A domain block of the trial: 128 bytes of a settings block. Assumes nothing.
use Rattle.std.specs.Prelude.{ℕ, ◌+◌, ◌%◌, cond, List, eqb, ltb, get_or, drop, Option, Some, None}
use Rattle.text.specs.Fields.{long_at, bytes_at}
use Rattle.frame.specs.declared.data_ids.DataIds.{DataIds}
use Rattle.frame_check.specs.declared.CheckMode.{CheckMode}
use Rattle.frame_check.specs.declared.CheckMode.TheVariants.{Validated, NotValidated, Ignored, Optional}
use Rattle.settings.specs.declared.domain_settings.DomainSettings.{DomainSettings}
use Rattle.settings.specs.declared.domain_settings.Security.{Security}
use Rattle.settings.specs.declared.domain_settings.Security.TheVariants.{Plain, Secured}
use Rattle.settings.specs.Domain.{absent_held, no_settings, as_slave, as_master}

-- ---- Check mode: 0 validated, 1 not validated, 2 ignored, 3 optional.
abbrev pub mode_of : (code : ℕ) → Option CheckMode
mode_of code =
    cond (eqb code 0) (Some Validated)
    (cond (eqb code 1) (Some NotValidated)
    (cond (eqb code 2) (Some Ignored)
    (cond (eqb code 3) (Some Optional) None)))

-- ---- Secured: 0 or 1.
abbrev pub sends_as : (code : ℕ) → Option Security
sends_as code = cond (eqb code 0) (Some Plain) (cond (eqb code 1) (Some Secured) None)

-- ---- 16 SYNC DataIDs, 16 FUP DataIDs.
abbrev pub ids_of : (block : List ℕ) → DataIds
ids_of block = record { sync = bytes_at 16 block 56; fup = bytes_at 16 block 72 }

-- ---- C is held in 32 bits: what is above them is out of range, and stays so.
abbrev pub confirmation_time : ℕ → ℕ
confirmation_time time = cond (ltb time 4294967295) time 4294967295

-- ---- The count of a leap bit is coded less one, so that 0 is paper 01's rule; 255 is a count of 0, out of range.
abbrev pub clear_count : (code : ℕ) → ℕ
clear_count code = (code + 1) % 256

-- ---- A domain block: role, check mode, J, secured, user bytes 0 to 2, the count's code; then F,
-- L, future, past, P, C; then the DataIDs; then H. A role's settings alone are read.
abbrev pub slave_as : Option CheckMode → (block : List ℕ) → DomainSettings
slave_as (Some m) block =
    as_slave (get_or block 2 0) (get_or block 88 0) (long_at block 8) (long_at block 16)
    (long_at block 24) (long_at block 32) (clear_count (get_or block 7 0)) m (ids_of block)
slave_as None block = no_settings

abbrev pub master_as : Option Security → (block : List ℕ) → DomainSettings
master_as (Some security) block =
    as_master (long_at block 40) (confirmation_time (long_at block 48)) security
    (record { 0 = get_or block 4 0; 1 = get_or block 5 0; 2 = get_or block 6 0 }) (ids_of block)
master_as None block = no_settings

-- ---- Role: 0 absent, 1 slave, 2 master.
abbrev pub domain_as : (role : ℕ) (block : List ℕ) → DomainSettings
domain_as role block =
    cond (eqb role 0) absent_held
    (cond (eqb role 1) (slave_as (mode_of (get_or block 1 0)) block)
    (cond (eqb role 2) (master_as (sends_as (get_or block 3 0)) block) no_settings))

abbrev pub domain_of : (block : List ℕ) → DomainSettings
domain_of block = domain_as (get_or block 0 0) block

unfoldable pub domain_at : List ℕ → (at : ℕ) → DomainSettings
domain_at item at = domain_of (drop at item)
