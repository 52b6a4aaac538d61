pub mod Pairs
pub mod Candidates
pub mod Levels
pub mod Changes
pub mod Examples
pub mod Shifted
