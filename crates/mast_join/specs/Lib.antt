pub mod Answers
pub mod Chosen
pub mod Extensions
pub mod Hits
pub mod Slices
pub mod inside
