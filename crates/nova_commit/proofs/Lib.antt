pub mod Items
pub mod Reading
pub mod Loop
pub mod Regroup
pub mod Rising
