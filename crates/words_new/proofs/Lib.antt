-- The laws of `words_new`, each after what it stands on.
pub mod Copied
pub mod Left
pub mod Judged
pub mod Only
