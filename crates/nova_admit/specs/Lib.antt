pub mod Texts
pub mod NodeShapes
pub mod NodeReaches
pub mod Shaped
pub mod TaskPlans
pub mod Flows
pub mod Codes
pub mod Settled
