-- What private functions alone cite: what clashes with each kind among the ranges that stand before, and what negatives share.
pub mod Seen
pub mod Shared
