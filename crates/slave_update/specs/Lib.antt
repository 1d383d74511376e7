-- The definitions of `slave_update`, in the order to read them.
pub mod Leap
pub mod Update
pub mod Row
