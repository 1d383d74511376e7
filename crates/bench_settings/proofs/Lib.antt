-- The laws of `bench_settings`.
pub mod Only
