-- The definitions of `bench_settings`.
pub mod Bench
