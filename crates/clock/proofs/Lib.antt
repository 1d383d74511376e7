-- The laws of `clock`, each after what it stands on.
pub mod Laws
pub mod Only
