-- The laws of `domain`, each after what it stands on.
pub mod Laws
pub mod Only
