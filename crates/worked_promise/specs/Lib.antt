pub mod Triangle
pub mod Tiled
