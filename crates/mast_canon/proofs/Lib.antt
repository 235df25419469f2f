pub mod AnchorLemmas
mod AnswerExamples
pub mod ApartLemmas
pub mod ChoiceLemmas
pub mod ConditionLemmas
pub mod ConflictLemmas
pub mod DecidedKeptLemmas
pub mod DecisionLemmas
mod Examples
pub mod FactLemmas
pub mod FactListLemmas
pub mod FillerLemmas
pub mod FittingLemmas
pub mod FoundLemmas
pub mod GrowthLemmas
pub mod HoldsLemmas
pub mod ImageLemmas
pub mod KeptChoiceLemmas
pub mod KeptLemmas
pub mod KeptRangeLemmas
pub mod KeptWorldLemmas
pub mod ListedLemmas
pub mod MakingLemmas
pub mod ModelsLemmas
pub mod NormalFactLemmas
mod OriginExamples
pub mod OriginLemmas
pub mod OverLemmas
pub mod PathLemmas
pub mod RowLemmas
pub mod SpecLemmas
pub mod SupportLemmas
pub mod TestLemmas
pub mod ThroughLemmas
pub mod ThroughTupleLemmas
pub mod UnspecialisedLemmas
pub mod WorldLemmas
