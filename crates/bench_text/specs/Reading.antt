-- How a whole text is read, and what the reader answers and leaves in the buffer.
use Rattle.std.specs.Prelude.{ℕ, ◌+◌, ◌/◌, if◌then◌else◌, List, [], ◌∷◌, ◌++◌, length, drop, Ok, Err, Result, nat_lt}
use Rattle.std.specs.Option.{option_map_or}
use Rattle.bench_text.specs.declared.answers.BenchCounts.{BenchCounts}
use Rattle.bench_text.specs.declared.answers.Expected.{Expected}
use Rattle.bench_text.specs.declared.answers.Expected.TheVariants.{Numbers, Record}
use Rattle.bench_text.specs.declared.answers.TextError.{TextError}
use Rattle.bench_text.specs.declared.answers.TextError.TheVariants.{Line, BufferTooShort}
use Rattle.bench_text.specs.declared.headings.Header.{Header}
use Rattle.bench_text.specs.Heading.{header_of}
use Rattle.bench_text.specs.Hex.{hex_record}
use Rattle.bench_text.specs.Lines.{lines}

-- the counts and the code of a text; or the number of its first bad line, what was expected there, and the code of the lines before it
pub data Reading : Type 0 where
  given : BenchCounts → List ℕ → Reading
  refused : ℕ → Expected → List ℕ → Reading

-- the counts of a text with n records after its first line
abbrev pub counts_of : Header → ℕ → BenchCounts
counts_of h n = record { places = h.places; results = h.results; records = n }

-- the lines that follow n records with this code; the next of them is line n + 2
abbrev pub records_from : Header → ℕ → List ℕ → List (List ℕ) → Reading
records_from h n code [] = given (counts_of h n) code
records_from h n code (l ∷ ls) = option_map_or (λ bytes. records_from h (n + 1) (code ++ bytes) ls) (hex_record l) (refused (n + 2) Record code)

-- the two numbers, and then the records
abbrev pub lines_read : List (List ℕ) → Reading
lines_read [] = refused 1 Numbers []
lines_read (l ∷ ls) = option_map_or (λ h. records_from h 0 [] ls) (header_of l) (refused 1 Numbers [])

-- a text is read by its lines
abbrev pub reading : List ℕ → Reading
reading text = lines_read (lines text)

-- the counts, or the line that is refused
abbrev pub answer_of : Reading → Result BenchCounts TextError
answer_of (given counts code) = Ok counts
answer_of (refused n want code) = Err (Line n want)

-- the code of the records that were read
abbrev pub code_of : Reading → List ℕ
code_of (given counts code) = code
code_of (refused n want code) = code

-- the buffer with these bytes written over its first ones
abbrev pub placed : List ℕ → List ℕ → List ℕ
placed bytes buffer = bytes ++ drop (length bytes) buffer

-- what is answered; a buffer shorter than half of the text is refused, whatever the text
abbrev pub answered : List ℕ → List ℕ → Result BenchCounts TextError
answered text buffer = if nat_lt (length buffer) (length text / 2) then Err BufferTooShort else answer_of (reading text)

-- what the buffer holds then; one shorter than half of the text is left as it was
abbrev pub filled : List ℕ → List ℕ → List ℕ
filled text buffer = if nat_lt (length buffer) (length text / 2) then buffer else placed (code_of (reading text)) buffer
