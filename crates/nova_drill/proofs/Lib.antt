pub mod Loads
pub mod Loading
pub mod Giving
