-- The definitions of `admission`, in the order to read them.
pub mod Reading
pub mod Kept
pub mod Admission
pub mod FrameAdmission
