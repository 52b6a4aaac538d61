pub mod Unchanged
pub mod Recounting
pub mod Bounded
pub mod Worked
