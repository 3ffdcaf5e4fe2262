-- what public clauses cite
pub mod Rule
pub mod Plan
pub mod Advance
pub mod Sorts
pub mod Statements
-- what private functions say of their answers
pub mod Calls
pub mod Fit
