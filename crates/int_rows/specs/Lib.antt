pub mod Gcd
pub mod Rows
pub mod Elimination
pub mod Exclusion
pub mod Systems
pub mod Laws
