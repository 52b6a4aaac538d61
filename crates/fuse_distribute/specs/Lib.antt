pub mod Moving
pub mod Fusing
pub mod Distributing
