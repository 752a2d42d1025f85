pub mod Schemas
pub mod RowContents
pub mod TableStates
pub mod RowIteration
pub mod TableCreation
pub mod Migrations
pub mod TableOpening
pub mod SavedCheckpoints
