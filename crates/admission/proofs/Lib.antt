-- The laws of `admission`.
pub mod Laws
pub mod Only
