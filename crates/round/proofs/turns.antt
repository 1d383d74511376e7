-- The laws of `round::turns`.
pub mod Only
