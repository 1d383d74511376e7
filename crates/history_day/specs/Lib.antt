-- The definitions of `history_day`, in the order to read them.
pub mod Met
pub mod Settings
pub mod Day
pub mod Edges
pub mod Row
pub mod Second
pub mod Altered
