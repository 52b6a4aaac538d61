pub mod Found
pub mod Tested
pub mod Fitted
pub mod Moved
pub mod Densed
