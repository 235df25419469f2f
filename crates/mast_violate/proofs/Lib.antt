pub mod BreachLemmas
pub mod ListLemmas
pub mod MetLemmas
pub mod PairLemmas
pub mod PathLemmas
pub mod SeenLemmas
pub mod WalkLemmas
