pub mod Wired
pub mod Catalog
pub mod Shelves
pub mod Prepared
pub mod Named
pub mod Sound
pub mod Worked
