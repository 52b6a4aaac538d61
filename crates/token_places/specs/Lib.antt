pub mod Marks
pub mod Carets
pub mod Lines
