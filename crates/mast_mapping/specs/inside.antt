-- What private functions alone cite: the kinds of columns, indices by name, and what readers have read so far.
pub mod Declared
pub mod Indices
pub mod Kinds
pub mod Progress
pub mod ReadHeads
pub mod Readers
pub mod Sources
