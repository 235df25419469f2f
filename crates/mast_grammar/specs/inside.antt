-- What private functions alone cite.
pub mod Machine
pub mod Predict
pub mod Reader
pub mod Rules
