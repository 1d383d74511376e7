-- The definitions of `node_queue`.
pub mod Queue
