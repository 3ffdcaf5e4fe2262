pub mod Bests
pub mod Done
