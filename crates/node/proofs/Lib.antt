-- The laws of `node`, each after what it stands on.
pub mod Sixteen
pub mod Only
