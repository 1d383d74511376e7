-- The laws of `sheet_tally::sheet`.
pub mod Sixteen
pub mod Only
