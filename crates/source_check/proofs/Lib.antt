pub mod Accepting
pub mod Over
pub mod Shapes
