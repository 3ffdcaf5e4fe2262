-- What public clauses cite.
pub mod Limits
pub mod Script
pub mod Size
-- What private functions say of their answers.
pub mod Parse
