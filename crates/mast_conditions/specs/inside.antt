-- What private functions alone cite: equalities, and what they tie to each other.
pub mod Links
