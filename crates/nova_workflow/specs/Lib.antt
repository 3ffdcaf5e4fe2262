pub mod Writers
pub mod Whole
