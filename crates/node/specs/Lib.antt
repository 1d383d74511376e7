-- The definitions of `node`, in the order to read them.
pub mod New
pub mod Store
pub mod Frame
pub mod Read
pub mod Set
pub mod CycleAnswer
pub mod Cycle
pub mod Confirm
