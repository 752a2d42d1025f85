pub mod Asked
pub mod Numbers
