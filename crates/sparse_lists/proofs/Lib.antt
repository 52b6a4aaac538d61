pub mod Positions
pub mod Relocating
pub mod Levels
pub mod Examples
