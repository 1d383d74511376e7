-- The definitions of `slave_counter`, in the order to read them.
pub mod Counter
pub mod Row
