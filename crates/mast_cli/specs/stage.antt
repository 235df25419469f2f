-- The stages of runs.
pub mod Closures
pub mod Document
pub mod Restrictions
pub mod Tables
