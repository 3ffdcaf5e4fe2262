pub mod Reads
pub mod Base
pub mod Rows
pub mod Groups
pub mod Made
pub mod Damage
pub mod Executed
pub mod Laws
