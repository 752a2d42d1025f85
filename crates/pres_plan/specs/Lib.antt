pub mod Faults
pub mod Places
pub mod Plans
pub mod Standing
