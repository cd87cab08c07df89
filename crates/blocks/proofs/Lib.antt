pub mod Makes
pub mod Numbers
pub mod Positions
pub mod Missing
pub mod Moves
pub mod Keeps
pub mod Within
pub mod Counted
