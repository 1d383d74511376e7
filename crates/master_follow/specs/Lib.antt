-- The definitions of `master_follow`.
pub mod Follow
