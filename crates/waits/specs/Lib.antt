-- The definitions of `waits`.
pub mod Waits
