pub mod Sizes
pub mod Nests
pub mod Written
