pub mod Membership
pub mod Examples
