pub mod Entries
pub mod Link
pub mod Stored
pub mod EntriesLaws
pub mod StoredLaws
