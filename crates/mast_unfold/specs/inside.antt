-- What private functions alone cite: look-ups by name, equations and how values spread through them, forms of heads, and lists of sources.
pub mod Equations
pub mod Forms
pub mod Listing
pub mod Lookups
pub mod Slots
pub mod Spreading
