-- The definitions of `frame_check`.
pub mod Check
