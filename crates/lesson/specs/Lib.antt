pub mod Room
pub mod Lesson
pub mod Text
pub mod Classroom
pub mod Steps
pub mod RepliesLaws
pub mod SettledLaws
