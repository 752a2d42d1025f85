pub mod Asks
pub mod Bells
pub mod Refusals
