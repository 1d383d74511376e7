-- The laws of `text::lines`, each after what it stands on.
pub mod Only
pub mod Fits
