-- What private functions alone cite: the parts of roles and left sides.
pub mod Parts
