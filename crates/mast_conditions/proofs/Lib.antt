pub mod CollectLemmas
pub mod LinkLemmas
pub mod RowLemmas
pub mod TruthLemmas
