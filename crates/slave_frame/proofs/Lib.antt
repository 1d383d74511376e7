-- The laws of `slave_frame`, each after what it stands on.
pub mod Laws
pub mod Only
