-- The definitions of `sheet_laws`, in the order to read them.
pub mod Calls
pub mod Heard
pub mod Totals
pub mod Sheets
pub mod Records
