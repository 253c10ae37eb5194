pub mod Operations
pub mod Provided
pub mod Faults
