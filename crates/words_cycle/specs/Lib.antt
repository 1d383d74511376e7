-- The definitions of `words_cycle`.
pub mod Cycle
