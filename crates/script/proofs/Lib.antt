mod Lines
mod Writes
