-- The laws of `trial_step::queue`.
pub mod Laws
