-- What private functions alone cite.
pub mod Buffers
pub mod Cells
pub mod Kinds
pub mod Places
pub mod Plans
