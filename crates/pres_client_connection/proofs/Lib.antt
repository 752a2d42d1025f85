mod Driven
mod Messages
