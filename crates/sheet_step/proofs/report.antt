-- The laws of `sheet_step::report`.
pub mod Only
