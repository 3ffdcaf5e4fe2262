pub mod Shapes
pub mod Tests
pub mod OutputKey
pub mod OutputKeys
pub mod Patterns
pub mod Table
pub mod Statements
pub mod Worked
