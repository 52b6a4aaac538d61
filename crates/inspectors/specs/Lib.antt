pub mod Numbers
pub mod Trees
pub mod Expressions
pub mod Layouts
pub mod Marks
pub mod Rows
