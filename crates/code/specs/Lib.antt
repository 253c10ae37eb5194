pub mod Bytes
pub mod Lawful
pub mod Layout
pub mod Marks
pub mod Verdict
