pub mod Ranges
pub mod Meaning
pub mod WholeMeaning
pub mod DimensionMeaning
pub mod Exponents
pub mod Wholes
