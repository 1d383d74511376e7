-- The definitions of `round`, in the order to read them.
pub mod Turn
pub mod Round
pub mod FirstDue
