-- The laws of `sheet_tally::entry`.
pub mod Only
