-- The laws of `frame_read`.
pub mod Laws
pub mod Only
