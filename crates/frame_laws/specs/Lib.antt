-- The definitions of `frame_laws`.
pub mod RoundTrip
