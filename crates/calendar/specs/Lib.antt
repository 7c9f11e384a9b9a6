pub mod Days
pub mod Calendar
pub mod Asked
pub mod Worked
pub mod WorkedLaws
