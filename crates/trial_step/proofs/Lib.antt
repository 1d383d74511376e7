-- The laws of `trial_step`.
pub mod Only
pub mod Laws
