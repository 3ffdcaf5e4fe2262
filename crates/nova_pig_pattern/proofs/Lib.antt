pub mod Decided
pub mod Shaped
pub mod Tabled
pub mod Examples
