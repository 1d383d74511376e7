-- The laws of `bench_record::step`, each after what it stands on.
pub mod Laws
pub mod Only
