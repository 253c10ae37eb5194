pub mod Operations
pub mod Refusals
pub mod Faults
pub mod Provided
