pub mod Levels
pub mod Change
pub mod Moves
pub mod Placed
