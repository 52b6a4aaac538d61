pub mod Moves
pub mod Unchanged
pub mod Recounting
pub mod Bounded
pub mod Examples
