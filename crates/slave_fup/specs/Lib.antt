-- The definitions of `slave_fup`.
pub mod Fup
