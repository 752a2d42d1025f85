mod Blank
mod Left
mod Successes
