pub mod Turns
pub mod Built
pub mod Making
mod Examples
