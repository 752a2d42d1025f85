pub mod Maps
pub mod Queues
pub mod Told
