-- The definitions of `master_set`.
pub mod Set
