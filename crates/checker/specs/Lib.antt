pub mod Pairs
pub mod Programs
pub mod Seen
pub mod Verdicts
pub mod Checks
