-- The laws of `waits`, each after what it stands on.
pub mod Ahead
pub mod Senders
pub mod Waits
pub mod Router
pub mod Altered
