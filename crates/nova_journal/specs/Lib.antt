pub mod Extent
pub mod Fault
pub mod Laws
pub mod Log
pub mod Marks
pub mod FormatFault
