pub mod Causes
pub mod Disk
pub mod History
pub mod Laws
pub mod Replies
