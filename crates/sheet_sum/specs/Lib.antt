-- The definitions of `sheet_sum`, in the order to read them.
pub mod Wide
pub mod Sum
