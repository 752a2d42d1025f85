pub mod Faults
pub mod Clients
pub mod Calls
pub mod ReceivedMessages
pub mod Notices
pub mod Steps
pub mod Views
pub mod Sends
