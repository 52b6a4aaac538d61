pub mod State
pub mod Ready
pub mod Does
pub mod Data
