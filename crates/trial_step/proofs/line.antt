-- The laws of `trial_step::line`, each after what it stands on.
pub mod Buffer
pub mod Only
pub mod Fits
