pub mod Names
pub mod Uses
pub mod Limits
pub mod Signature
pub mod Outcomes
pub mod Statements
pub mod Fixed
pub mod Rules
