pub mod Refer
pub mod Express
pub mod Making
pub mod Defining
pub mod Settled
