-- The definitions of `sheet_line`, in the order to read them.
pub mod Signed
pub mod Line
