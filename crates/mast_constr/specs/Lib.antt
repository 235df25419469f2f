pub mod Variables
pub mod Paths
pub mod Denials
pub mod Items
pub mod Whole
pub mod Kept
pub mod inside
