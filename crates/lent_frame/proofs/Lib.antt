-- The laws of `lent_frame`.
pub mod Only
