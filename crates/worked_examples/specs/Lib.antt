pub mod Banks
pub mod Execution
pub mod Schedules
pub mod Table
