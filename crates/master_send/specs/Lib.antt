-- The definitions of `master_send`.
pub mod Send
