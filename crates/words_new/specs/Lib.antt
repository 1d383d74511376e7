-- The definitions of `words_new`, in the order to read them.
pub mod New
pub mod Made
