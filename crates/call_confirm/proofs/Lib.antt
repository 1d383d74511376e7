-- The laws of `call_confirm`.
pub mod Only
