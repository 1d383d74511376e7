-- The definitions of `apart_laws`.
pub mod Apart
