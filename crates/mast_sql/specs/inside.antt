-- What private functions alone cite: the automata that read bytes and symbols, and what they tell.
pub mod Lexed
pub mod Parser
pub mod Quotes
pub mod Scanner
