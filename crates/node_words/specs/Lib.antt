-- The definitions of `node_words`, in the order to read them.
pub mod Words
pub mod Node
