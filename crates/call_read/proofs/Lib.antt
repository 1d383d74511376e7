-- The laws of `call_read`.
pub mod Only
