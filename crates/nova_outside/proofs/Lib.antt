pub mod Moments
pub mod Outcomes
pub mod ReplyLemmas
pub mod Torn
