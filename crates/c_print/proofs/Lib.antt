pub mod Backwards
pub mod DataEquations
pub mod Equations
pub mod Pieces
pub mod ProgramParts
pub mod StatementEquations
pub mod Texts
