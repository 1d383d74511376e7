-- The definitions of `domain`, in the order to read them.
pub mod Fresh
pub mod Records
pub mod Updates
pub mod Fields
