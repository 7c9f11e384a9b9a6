pub mod Steps
pub mod Packets
