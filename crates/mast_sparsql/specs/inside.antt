-- What private functions alone cite.
pub mod Cursors
pub mod Lines
pub mod Parts
