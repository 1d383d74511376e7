-- The definitions of `call_frame`.
pub mod FrameCall
