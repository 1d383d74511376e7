-- The laws of `sheet_step`, each after what it stands on.
pub mod Records
pub mod Only
