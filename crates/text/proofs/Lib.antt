-- The laws of `text`, each after what it stands on.
pub mod Laws
pub mod Wrote
pub mod Lengths
pub mod Digits
pub mod Only
