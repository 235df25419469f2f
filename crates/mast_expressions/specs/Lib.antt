pub mod Iris
pub mod Judged
pub mod Given
pub mod Reads
pub mod inside
