pub mod Listing
pub mod Texts
