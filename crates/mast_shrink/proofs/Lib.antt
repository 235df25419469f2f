mod RemovalLemmas
mod RowLemmas
