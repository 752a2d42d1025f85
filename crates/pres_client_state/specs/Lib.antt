pub mod Asks
pub mod ClientQueues
pub mod Queues
pub mod Watches
