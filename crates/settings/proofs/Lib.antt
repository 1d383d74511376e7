-- The laws of `settings`, each after what it stands on.
pub mod Laws
pub mod Only
