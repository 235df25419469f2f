pub mod ReadLemmas
pub mod GivenLemmas
pub mod OneLemmas
pub mod FoundLemmas
pub mod KnownLemmas
pub mod DateLemmas
