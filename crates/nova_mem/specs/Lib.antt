pub mod Deeds
pub mod Disks
pub mod Does
pub mod Hosts
pub mod Turns
pub mod Valid
