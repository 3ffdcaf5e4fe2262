pub mod Planned
pub mod Captures
pub mod Fitting
pub mod RunsFit
pub mod Tables
pub mod Follow
pub mod OneInput
pub mod Leading
pub mod RowRuns
pub mod GroupRuns
pub mod Writes
pub mod Standing
pub mod WorkDone
pub mod Admitted
pub mod Taken
mod Examples
