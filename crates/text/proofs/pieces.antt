-- The laws of `text::pieces`.
pub mod Only
