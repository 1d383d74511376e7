-- The laws of `words_frame`, each after what it stands on.
pub mod Rest
pub mod Only
