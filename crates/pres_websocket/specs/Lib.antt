pub mod CloseHandshake
pub mod ConnectionFaults
pub mod Meters
pub mod SocketReads
