pub mod Examples
pub mod Names
pub mod Fits
pub mod FitStatements
pub mod FitsProgram
