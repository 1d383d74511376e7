-- The laws of `words_laws`, each after what it stands on.
pub mod Parts
pub mod Puts
pub mod Back
pub mod OfNode
pub mod Fits
pub mod FrameFits
pub mod Stored
pub mod Calls
pub mod Queue
pub mod Cycle
pub mod Run
pub mod Promised
pub mod CallsOfNode
pub mod CycleOfNode
pub mod RunOfNode
