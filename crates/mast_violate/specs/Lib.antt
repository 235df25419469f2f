pub mod Patterns
pub mod ViolationLists
pub mod Breaches
pub mod inside
