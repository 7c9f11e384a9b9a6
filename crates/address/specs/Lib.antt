pub mod Address
pub mod AddressLaws
