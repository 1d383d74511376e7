-- The laws of `slave_update`, each after what it stands on.
pub mod Laws
pub mod Leaps
pub mod Only
