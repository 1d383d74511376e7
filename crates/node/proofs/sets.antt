-- The laws of `node::sets`.
pub mod Only
