pub mod CursorLemmas
pub mod LexingLemmas
pub mod PartLemmas
pub mod PassLemmas
pub mod TerminalLemmas
pub mod TreeLemmas
