-- what public clauses cite
pub mod Sorts
pub mod Pieces
pub mod Spelling
pub mod Reading
pub mod Faults
pub mod Written
pub mod Statements
