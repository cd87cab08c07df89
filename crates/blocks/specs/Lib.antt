pub mod Steps
pub mod Machine
pub mod Exits
pub mod Entries
pub mod Model
pub mod View
pub mod Calls
pub mod Whole
