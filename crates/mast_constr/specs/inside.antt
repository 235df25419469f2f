-- What private functions alone cite: how variables are shown, and what each rule is read to.
pub mod Atoms
pub mod Rules
pub mod Shown
