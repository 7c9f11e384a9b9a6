pub mod Frame
pub mod Outgoing
pub mod Room
pub mod FieldsLaws
pub mod LengthsLaws
pub mod Named
