mod Finding
mod Flaws
mod Printing
