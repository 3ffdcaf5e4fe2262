pub mod Cuts
pub mod Deep
pub mod Scripts
pub mod Faults
pub mod Size
