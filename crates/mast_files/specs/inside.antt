-- What private functions alone cite.
pub mod Counts
pub mod Notes
pub mod Pieces
pub mod Places
