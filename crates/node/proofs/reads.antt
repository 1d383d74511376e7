-- The laws of `node::reads`.
pub mod Only
