-- The laws of `round`, each after what it stands on.
pub mod Rest
pub mod Only
pub mod Places
pub mod Walk
pub mod Serve
pub mod FirstDue
