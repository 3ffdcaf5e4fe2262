pub mod Prefixes
pub mod Loop
pub mod Fields
pub mod Entries
pub mod Once
pub mod Blocks
pub mod Lengths
pub mod Settled
