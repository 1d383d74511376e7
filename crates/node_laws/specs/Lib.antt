-- The definitions of `node_laws`, in the order to read them.
pub mod Reachable
pub mod Good
pub mod Leaps
pub mod Bounds
pub mod Cases
pub mod Due
pub mod Tests
pub mod Refused
pub mod Excepted
pub mod InRow
pub mod Apart
pub mod Back
pub mod Demands
pub mod Caps
