pub mod DecidedLaws
pub mod Limits
pub mod Checks
pub mod inside
