-- The laws of `words_cycle`, each after what it stands on.
pub mod Due
pub mod Turned
pub mod Rest
pub mod Cycled
pub mod Only
