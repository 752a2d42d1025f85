pub mod Json
pub mod Split
pub mod Going
pub mod Steps
