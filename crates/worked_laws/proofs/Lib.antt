pub mod Lists
pub mod Places
pub mod Terms
pub mod Diagonal
pub mod Shift
pub mod Pieces
pub mod Levels
pub mod Running
