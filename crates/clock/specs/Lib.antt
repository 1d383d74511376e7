-- The definitions of `clock`, in the order to read them.
pub mod Reading
pub mod Over
pub mod Time
pub mod Base
pub mod Apart
pub mod Difference
