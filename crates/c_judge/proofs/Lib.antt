pub mod NameEq
pub mod UsesAt
pub mod SizesAt
pub mod StatementsAt
