pub mod Stays
pub mod KnownTrees
pub mod ReachedTrees
pub mod Patterned
pub mod Settled
pub mod Schemas
pub mod Told
