-- The laws of `settings::ranges`, each after what it stands on.
pub mod Laws
pub mod Only
