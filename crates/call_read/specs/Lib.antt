-- The definitions of `call_read`, in the order to read them.
pub mod Answer
pub mod ReadCall
