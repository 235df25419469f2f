mod AnswerLemmas
pub mod BufferLemmas
mod CellLemmas
mod ConflictLemmas
mod FactPlanLemmas
pub mod LineLemmas
pub mod PlaceLemmas
mod PlanLemmas
pub mod SetLemmas
pub mod TextLemmas
mod TupleLineLemmas
pub mod WordLemmas
mod WrittenLemmas
