-- The definitions of `promise`.
pub mod Only
