pub mod Planned
pub mod Made
pub mod Statements
pub mod Worked
pub mod NothingDue
