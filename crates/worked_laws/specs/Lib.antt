pub mod Statements
pub mod Order
pub mod Terms
pub mod Diagonal
pub mod Shift
pub mod Levels
pub mod Commands
pub mod Runs
