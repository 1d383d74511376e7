-- The laws of `master_confirm`, each after what it stands on.
pub mod Laws
pub mod Only
