pub mod HeadFacts
pub mod Sources
pub mod inside
