-- The laws of `slave_fup`, each after what it stands on.
pub mod Laws
pub mod Only
