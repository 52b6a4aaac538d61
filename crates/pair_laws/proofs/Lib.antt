mod Differences
mod Pairs
mod Cells
mod Candidates
pub mod Levels
pub mod Changes
mod Worked
pub mod Shifted
