-- The laws of `text::fields`, each after what it stands on.
pub mod Laws
pub mod Only
