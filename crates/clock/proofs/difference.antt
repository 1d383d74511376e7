-- The laws of `clock::difference`, each after what it stands on.
pub mod Laws
pub mod Only
mod Signed
