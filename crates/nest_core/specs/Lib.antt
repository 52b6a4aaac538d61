pub mod Numbers
pub mod Making
pub mod Forms
pub mod Order
pub mod Pieces
pub mod Shapes
pub mod Terms
pub mod Chains
