-- The laws of `clock::apart`, each after what it stands on.
pub mod Compared
pub mod Only
