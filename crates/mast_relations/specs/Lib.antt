pub mod Lookups
pub mod Matches
pub mod Plans
pub mod Slices
pub mod Stores
pub mod inside
