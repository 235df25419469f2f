pub mod Evaluated
pub mod Formulas
pub mod Laws
pub mod Satisfaction
