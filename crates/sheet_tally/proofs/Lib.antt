-- The laws of `sheet_tally`.
pub mod Only
