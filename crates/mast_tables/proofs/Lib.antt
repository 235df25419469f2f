pub mod AllRecords
pub mod BreachLemmas
pub mod CellsLemmas
pub mod FieldLemmas
pub mod HeaderLemmas
pub mod CodesLemmas
mod JudgingLemmas
mod NumberLemmas
pub mod OnceLemmas
pub mod ReadingLemmas
pub mod RecordsLemmas
pub mod RoomLemmas
pub mod RowsLemmas
pub mod WholeLemmas
