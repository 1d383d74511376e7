-- The laws of `record_words`, each after what it stands on.
pub mod Runs
pub mod Unpacked
pub mod Back
pub mod Only
