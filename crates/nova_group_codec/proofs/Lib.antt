pub mod Rising
pub mod Fields
pub mod Lists
pub mod Items
pub mod States
pub mod Loop
