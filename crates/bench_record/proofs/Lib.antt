-- The laws of `bench_record`.
pub mod Only
