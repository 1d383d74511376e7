-- The laws of `trial_step::block`.
pub mod Only
pub mod Refused
