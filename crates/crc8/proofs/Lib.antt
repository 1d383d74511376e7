-- The laws of `crc8`, each after what it stands on.
pub mod Laws
pub mod Only
pub mod Values
