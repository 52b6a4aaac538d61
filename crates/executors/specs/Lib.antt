pub mod Executors
