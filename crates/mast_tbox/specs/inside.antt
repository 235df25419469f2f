-- What private functions alone cite: lists of steps and the groups of an index, sets of properties and notes of chiefs, components, judging by chiefs, and chiefs of names.
pub mod Bounds
pub mod StepLists
pub mod Groups
pub mod Chosen
pub mod Components
pub mod Judging
pub mod Linking
