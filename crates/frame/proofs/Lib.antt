-- The laws of `frame`.
pub mod Only
