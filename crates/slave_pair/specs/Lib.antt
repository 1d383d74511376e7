-- The definitions of `slave_pair`, in the order to read them.
pub mod Pair
pub mod Join
