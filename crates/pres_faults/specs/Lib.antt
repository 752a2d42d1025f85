pub mod HubFaults
pub mod SavedFaults
