-- The lemmas, by topic.
pub mod JoinLemmas
pub mod TermLemmas
