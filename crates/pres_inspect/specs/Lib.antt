pub mod Copies
pub mod Faults
pub mod Reports
