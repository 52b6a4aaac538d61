pub mod Prescribed
pub mod Moved
pub mod Levels
