-- The definitions of `call_confirm`.
pub mod ConfirmCall
