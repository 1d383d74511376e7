-- The laws of `bench_step::line`, each after what it stands on.
pub mod Frames
pub mod Only
pub mod Fits
