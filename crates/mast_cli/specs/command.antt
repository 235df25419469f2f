-- What each command answers.
pub mod Check
pub mod Facts
