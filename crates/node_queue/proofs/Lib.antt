-- The laws of `node_queue`, each after what it stands on.
pub mod Taken
pub mod Rest
pub mod Only
pub mod Laws
