-- The laws of `call_set`.
pub mod Only
