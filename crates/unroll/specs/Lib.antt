pub mod Bounds
pub mod Replaced
pub mod Groups
pub mod Places
pub mod Unrolled
pub mod Moves
