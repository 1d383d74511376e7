-- The laws of `apart_laws`, each after what it stands on.
pub mod Promised
pub mod Foreign
pub mod KeptApart
pub mod Meet
