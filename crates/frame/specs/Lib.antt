-- The definitions of `frame`, in the order to read them.
pub mod Types
pub mod ByteTwo
pub mod Ids
pub mod Values
