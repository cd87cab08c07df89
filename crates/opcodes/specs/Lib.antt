pub mod Words
pub mod Compares
pub mod Texts
