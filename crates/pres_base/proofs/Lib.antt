pub mod Answered
pub mod Searched
pub mod Planned
pub mod Fronts
pub mod AnswersApart
