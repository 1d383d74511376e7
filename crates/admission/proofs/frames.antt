-- The laws of `admission::frames`.
pub mod Only
