-- The definitions of `slave_sync`.
pub mod Sync
