-- The definitions of `bench_record`.
pub mod Record
pub mod Line
pub mod Step
