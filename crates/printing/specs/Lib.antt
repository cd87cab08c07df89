pub mod Written
pub mod Sets
pub mod Printed
