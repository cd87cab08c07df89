pub mod Texts
pub mod Describing
pub mod Programs
pub mod Loads
pub mod Views
pub mod Turns
pub mod Answered
