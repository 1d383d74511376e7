-- The laws of `settings::node_settings`.
pub mod Only
