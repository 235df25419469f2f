pub mod Held
pub mod Lexing
pub mod Passes
pub mod Terminals
pub mod Trees
pub mod WellFormed
pub mod inside
