pub mod AnswersApart
pub mod Bases
pub mod InternalRows
