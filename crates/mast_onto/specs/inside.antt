-- What private functions alone cite: statements within the limit, forms that lend their items, and what each place and the axioms are read to.
pub mod Growing
pub mod Shown
pub mod Reads
pub mod Stating
pub mod Sorting
