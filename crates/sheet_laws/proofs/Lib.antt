-- The laws of `sheet_laws`, each after what it stands on.
pub mod Lists
pub mod Tally
pub mod Spreads
pub mod Frames
pub mod Heard
pub mod AddUp
pub mod Sheets
pub mod Records
pub mod SixFrames
