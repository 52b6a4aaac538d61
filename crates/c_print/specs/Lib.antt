pub mod Data
pub mod Index
pub mod Lists
pub mod Printed
pub mod Program
pub mod Statement
