pub mod Lines
pub mod LeftSide
pub mod Steps
