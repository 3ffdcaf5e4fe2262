pub mod Ready
pub mod Known
pub mod Machine
pub mod GoingOn
