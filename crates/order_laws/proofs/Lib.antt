mod Staying
mod Room
mod Finding
mod Commands
mod Skewing
mod Worked
