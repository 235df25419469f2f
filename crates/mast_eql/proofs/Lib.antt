pub mod FormulaLemmas
pub mod RangeLemmas
