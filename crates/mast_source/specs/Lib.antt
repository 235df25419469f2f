pub mod Bom
pub mod Bytes
pub mod Escapes
pub mod Grammar
pub mod Laws
pub mod Slices
