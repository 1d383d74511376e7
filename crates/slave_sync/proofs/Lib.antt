-- The laws of `slave_sync`, each after what it stands on.
pub mod Laws
pub mod Only
