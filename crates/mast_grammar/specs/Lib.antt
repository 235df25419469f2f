pub mod Breaches
pub mod Grammar
pub mod Laws
pub mod inside
