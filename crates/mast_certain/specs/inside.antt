-- What private functions alone cite.
pub mod Found
pub mod Ordered
pub mod Supported
