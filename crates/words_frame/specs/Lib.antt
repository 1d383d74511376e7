-- The definitions of `words_frame`, in the order to read them.
pub mod Frame
pub mod Queue
