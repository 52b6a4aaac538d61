pub mod Pairs
pub mod Triangle
pub mod Tiled
