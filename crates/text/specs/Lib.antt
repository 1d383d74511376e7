-- The definitions of `text`.
pub mod Text
pub mod Fields
pub mod Lines
pub mod Pieces
