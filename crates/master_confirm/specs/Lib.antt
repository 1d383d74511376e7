-- The definitions of `master_confirm`.
pub mod Confirm
