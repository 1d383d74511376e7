-- The definitions of `call_set`.
pub mod SetCall
