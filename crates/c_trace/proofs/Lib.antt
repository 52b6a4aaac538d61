pub mod Writes
pub mod DataLines
pub mod Cells
pub mod Counts
pub mod Places
pub mod LeftSides
pub mod Expressions
pub mod Steps
