-- The definitions of `frame_read`.
pub mod Read
