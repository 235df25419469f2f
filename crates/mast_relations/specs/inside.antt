-- What private functions alone cite: hashes and the places that have them, rows in one vector, indices, and how a join goes.
pub mod Hashing
pub mod Indices
pub mod Joins
pub mod Lasts
pub mod Planning
pub mod RowSets
