-- The laws of `master_send`, each after what it stands on.
pub mod Laws
pub mod Only
