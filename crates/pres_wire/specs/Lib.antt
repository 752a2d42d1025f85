pub mod DownForms
pub mod DownReads
pub mod Faults
pub mod Fields
pub mod Messages
pub mod UpForms
pub mod Values
pub mod Views
