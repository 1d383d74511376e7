-- The definitions of `slave_status`.
pub mod Status
