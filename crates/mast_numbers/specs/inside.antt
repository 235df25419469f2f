-- What private functions alone cite: what stands for a term.
pub mod Keys
