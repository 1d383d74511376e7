-- The laws of `trial_step::domain_block`.
pub mod Refused
