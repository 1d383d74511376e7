-- The laws of `refusal`.
pub mod Laws
pub mod Only
