-- The definitions of `words_call`.
pub mod Calls
