pub mod Deeds
pub mod Spans
pub mod Blocks
pub mod Directory
