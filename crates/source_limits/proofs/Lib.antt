pub mod Executing
pub mod Counting
pub mod Lists
pub mod Declaring
pub mod Celled
pub mod Ruled
