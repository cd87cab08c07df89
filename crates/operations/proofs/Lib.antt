mod Apart
pub mod Exact
mod Idle
