-- What public clauses cite.
pub mod Size
