pub mod Words
pub mod Cursor
pub mod Commands
pub mod Recipe
