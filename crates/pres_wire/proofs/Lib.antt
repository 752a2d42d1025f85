pub mod After
pub mod Listed
pub mod Nesting
pub mod OpNesting
pub mod Rising
pub mod Trees
pub mod Whole
