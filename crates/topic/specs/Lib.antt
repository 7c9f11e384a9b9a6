pub mod Subnet
pub mod Book
pub mod Admission
pub mod Held
