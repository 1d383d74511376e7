-- The definitions of `record_words`, in the order to read them.
pub mod Packed
pub mod Parts
pub mod Record
pub mod Given
pub mod Fits
