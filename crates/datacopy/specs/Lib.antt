pub mod Sums
pub mod Levels
pub mod Boxes
pub mod Reads
pub mod Extents
pub mod Narrow
pub mod Copied
