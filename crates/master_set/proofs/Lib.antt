-- The laws of `master_set`, each after what it stands on.
pub mod Laws
pub mod Only
