-- The laws of `bench_step`.
pub mod Only
