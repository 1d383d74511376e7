-- The laws of `history_day`, each after what it stands on.
pub mod Tests
pub mod Day
pub mod Edges
pub mod Row
pub mod Second
pub mod Altered
