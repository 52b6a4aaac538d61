pub mod Rooms
pub mod Turned
pub mod Parts
pub mod DataParts
pub mod Statements
pub mod Lists
pub mod Whole
pub mod Texts
