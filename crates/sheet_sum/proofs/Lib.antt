-- The laws of `sheet_sum`, each after what it stands on.
pub mod Only
pub mod Halves
pub mod Sums
