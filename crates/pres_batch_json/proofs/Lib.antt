pub mod Back
pub mod Below
pub mod Forms
pub mod Joined
pub mod Listed
pub mod Whole
