-- The definitions of `sheet_tally`, in the order to read them.
pub mod Spread
pub mod Tally
pub mod Entry
pub mod Sheet
