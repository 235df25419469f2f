pub mod Answered
pub mod LargeClosures
pub mod inside
