-- The laws of `node::frames`, each after what it stands on.
pub mod Stored
pub mod Only
