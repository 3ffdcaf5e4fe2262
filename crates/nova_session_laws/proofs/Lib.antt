pub mod Cutting
pub mod Fronts
pub mod Reading
pub mod Keys
