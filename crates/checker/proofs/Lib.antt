pub mod Parts
pub mod Pairwise
pub mod Linked
pub mod Shown
pub mod Sight
pub mod Soundness
pub mod Rightness
pub mod Searches
