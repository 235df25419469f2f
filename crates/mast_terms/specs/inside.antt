-- What private functions alone cite: how a cell is read part by part, and what stands where printing stops.
pub mod DateParts
pub mod Digits
pub mod Growth
