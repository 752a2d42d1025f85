pub mod Bodies
pub mod Checks
pub mod Fields
pub mod Lists
pub mod Nulls
pub mod OneNull
pub mod Parts
pub mod Plans
