mod Prefix
mod Rest
mod Tests
