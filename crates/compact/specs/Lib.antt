pub mod Matching
pub mod Shapes
pub mod Names
pub mod Statement
pub mod Entered
pub mod Marked
pub mod Faults
