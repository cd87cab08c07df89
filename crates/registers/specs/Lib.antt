pub mod Registers
pub mod Alike
pub mod Names
pub mod Writes
pub mod Texts
pub mod Equality
