pub mod Laws
pub mod Next
pub mod Calls
pub mod ByKey
pub mod Trees
