-- The laws of `frame_check`.
pub mod Only
