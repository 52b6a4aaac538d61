pub mod Names
pub mod Made
pub mod Entering
pub mod Padded
pub mod Tested
pub mod Answers
