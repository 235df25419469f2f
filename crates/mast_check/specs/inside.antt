-- What private functions alone cite.
pub mod Judging
pub mod Limited
pub mod Made
pub mod Pieces
pub mod Possible
