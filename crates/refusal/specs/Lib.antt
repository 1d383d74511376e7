-- The definitions of `refusal`.
pub mod Numbers
