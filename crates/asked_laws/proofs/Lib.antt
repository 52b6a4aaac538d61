pub mod Along
pub mod Chosen
pub mod Local
pub mod Points
pub mod Asked
pub mod Ranges
pub mod Worked
