pub mod Changes
pub mod Settling
pub mod Told
