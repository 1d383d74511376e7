-- The laws of `node_words`, each after what it stands on.
pub mod Only
