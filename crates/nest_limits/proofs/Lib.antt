pub mod Deeper
pub mod Printing
