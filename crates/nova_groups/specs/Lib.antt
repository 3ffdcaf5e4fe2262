-- what public clauses cite
pub mod Numbers
pub mod Kinds
pub mod State
pub mod Seen
pub mod Parts
pub mod Statements
