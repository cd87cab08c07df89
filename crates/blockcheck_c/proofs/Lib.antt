pub mod Listed
pub mod Answering
