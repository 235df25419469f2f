-- What private functions alone cite: how cells are kept, and what the steps of reading tell.
pub mod Cells
pub mod Codes
pub mod Reading
