pub mod Counts
pub mod Groups
pub mod Steps
pub mod Best
pub mod Extremes
pub mod Small
pub mod Deltas
pub mod Slots
