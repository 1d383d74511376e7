-- The laws of `node_call`.
pub mod Only
