-- The laws of `slave_status`.
pub mod Only
