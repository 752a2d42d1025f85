pub mod Above
pub mod Faults
pub mod Offsets
pub mod Shelves
pub mod Tables
pub mod Verdicts
