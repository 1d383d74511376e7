-- The definitions of `crc8`.
pub mod Crc8
