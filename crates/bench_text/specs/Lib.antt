-- What the contracts cite: how a text is read, what is printed, and which texts are of the form.
pub mod Decimal
pub mod Heading
pub mod Hex
pub mod Lines
pub mod Message
pub mod Reading
pub mod Spelling
pub mod Steps
