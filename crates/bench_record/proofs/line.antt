-- The laws of `bench_record::line`, each after what it stands on.
pub mod Only
pub mod Fits
