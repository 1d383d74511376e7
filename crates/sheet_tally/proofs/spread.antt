-- The laws of `sheet_tally::spread`.
pub mod Only
