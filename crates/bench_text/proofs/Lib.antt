-- The lemmas: on the loops, on what each part spells, and on the whole text.
pub mod HexRecords
pub mod TextLaw
pub mod LineLayout
pub mod LineByLine
pub mod CutAtMark
pub mod FirstPlace
pub mod LineForms
pub mod BufferContents
pub mod RecordBytes
pub mod RecordLines
pub mod DecimalNumbers
pub mod Options
