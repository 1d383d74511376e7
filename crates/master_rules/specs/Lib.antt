-- The definitions of `master_rules`, in the order to read them.
pub mod Due
pub mod Sent
