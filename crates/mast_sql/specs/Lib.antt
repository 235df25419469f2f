pub mod Grammar
pub mod Laws
pub mod Signs
pub mod Source
pub mod Symbols
pub mod Tokens
pub mod inside
