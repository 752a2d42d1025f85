pub mod Above
pub mod Offsets
pub mod Puts
pub mod Records
pub mod Shelves
