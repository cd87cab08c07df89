pub mod Numbered
pub mod Equal
pub mod Meant
