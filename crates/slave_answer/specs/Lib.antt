-- The definitions of `slave_answer`.
pub mod Answer
