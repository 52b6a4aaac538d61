pub mod Carrying
pub mod Firsts
pub mod Leveling
mod Moving
pub mod Ordering
pub mod Pushing
