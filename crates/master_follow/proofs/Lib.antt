-- The laws of `master_follow`, each after what it stands on.
pub mod Laws
pub mod Only
