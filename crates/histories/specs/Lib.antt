pub mod Below
pub mod History
pub mod Reading
pub mod Schedule
pub mod Examples
