-- What private functions alone cite.
pub mod Arguments
pub mod Causes
pub mod FactLines
pub mod Loading
pub mod Readings
pub mod Specifying
pub mod Telling
