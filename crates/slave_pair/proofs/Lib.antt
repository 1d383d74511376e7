-- The laws of `slave_pair`.
pub mod Laws
pub mod Only
