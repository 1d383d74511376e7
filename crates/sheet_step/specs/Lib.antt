-- The definitions of `sheet_step`, in the order to read them.
pub mod Account
pub mod Report
