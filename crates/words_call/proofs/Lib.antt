-- The laws of `words_call`.
pub mod Only
