pub mod KeepsLaws
pub mod FramesLaws
pub mod RecordLaws
pub mod ExactlyLaws
pub mod WorkedLaws
