-- The definitions of `words_laws`.
pub mod Run
