pub mod Answers
pub mod Emitting
pub mod Working
pub mod Headline
