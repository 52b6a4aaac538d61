pub mod Printing
pub mod Bounds
pub mod Rows
pub mod Laws
pub mod Examples
