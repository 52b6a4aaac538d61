pub mod Standing
pub mod Lengths
