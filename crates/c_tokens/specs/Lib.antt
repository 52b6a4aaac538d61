pub mod Signs
pub mod Lines
pub mod Pieces
pub mod Tokens
pub mod Cursor
