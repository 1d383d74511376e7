-- The definitions of `history`, in the order to read them.
pub mod History
pub mod Demand
