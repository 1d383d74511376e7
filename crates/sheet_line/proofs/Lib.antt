-- The laws of `sheet_line`, each after what it stands on.
pub mod Slaves
pub mod Only
pub mod Exact
pub mod Fits
