pub mod Statements
pub mod Lists
