pub mod BomLemmas
pub mod ByteLemmas
pub mod EscapeLemmas
pub mod GrammarLemmas
pub mod ListLemmas
pub mod SliceLemmas
pub mod Utf8Lemmas
