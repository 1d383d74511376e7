-- The laws of `node::cycles`.
pub mod Only
