pub mod Names
pub mod Made
pub mod Images
pub mod Put
pub mod Alone
pub mod Copies
