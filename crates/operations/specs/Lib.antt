pub mod Access
pub mod Effects
pub mod Refusals
pub mod Texts
pub mod Typing
pub mod Raw
