-- The definitions of `lent_frame`.
pub mod Lent
