pub mod Inputs
pub mod ParsedLines
