pub mod Machine
pub mod Ends
pub mod Marks
pub mod Cells
pub mod Landing
pub mod Assumptions
pub mod Examples
