pub mod References
pub mod Resolves
pub mod Faults
