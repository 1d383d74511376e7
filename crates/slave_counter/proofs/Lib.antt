-- The laws of `slave_counter`, each after what it stands on.
pub mod Laws
pub mod Only
