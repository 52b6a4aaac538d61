pub mod Forms
pub mod Bounds
pub mod Judge
pub mod Places
pub mod Piece
pub mod Column
pub mod Dense
