-- The definitions of `node_call`, in the order to read them.
pub mod Calls
pub mod Called
