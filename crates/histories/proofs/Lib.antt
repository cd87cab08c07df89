pub mod Counts
pub mod Levels
pub mod Order
pub mod Reading
pub mod Dependences
pub mod Serial
