-- The laws of `call_frame`.
pub mod Only
