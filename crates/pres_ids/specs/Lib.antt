pub mod Forms
pub mod Ids
pub mod Numbers
