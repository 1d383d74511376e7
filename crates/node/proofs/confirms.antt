-- The laws of `node::confirms`.
pub mod Only
