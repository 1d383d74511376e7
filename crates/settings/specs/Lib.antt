-- The definitions of `settings`.
pub mod Domain
pub mod Ranges
pub mod Node
