-- The laws of `trial_step::item`.
pub mod Only
