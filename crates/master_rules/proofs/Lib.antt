-- The laws of `master_rules`, each after what it stands on.
pub mod Laws
pub mod Only
