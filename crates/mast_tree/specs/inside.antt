-- What private functions alone cite: automata, loop states and growing lists.
pub mod Growth
pub mod Lexed
pub mod MainNodes
pub mod Parser
pub mod Parts
pub mod Prologue
pub mod Scanner
