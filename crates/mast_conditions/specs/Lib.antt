pub mod Choices
pub mod Spans
pub mod Truth
pub mod inside
