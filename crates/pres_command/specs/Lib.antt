pub mod Advice
pub mod Runs
pub mod Statuses
pub mod Words
