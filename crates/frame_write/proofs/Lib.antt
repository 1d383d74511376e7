-- The laws of `frame_write`, each after what it stands on.
pub mod Laws
pub mod Only
