-- Which texts spell which counts and code, and which line of any other text is the first that is not of the form.
use Rattle.std.specs.Prelude.{◌≡◌, ℕ, ◌+◌, ◌/◌, ◌%◌, ◌^◌, ◌<◌, ◌≤◌, false, ◌⊎◌, List, [], ◌∷◌, ◌++◌, length, Ok, Err, Result, ◌≢◌}
use Rattle.std.specs.List.{flat_map, All, AllZip}
use Rattle.std.specs.Str.Parse.{IsNumeral, digits_value}
use Rattle.std.specs.Fmt.{digit_glyph}
use Rattle.bench_text.specs.declared.answers.BenchCounts.{BenchCounts}
use Rattle.bench_text.specs.declared.answers.Expected.{Expected}
use Rattle.bench_text.specs.declared.answers.Expected.TheVariants.{Numbers, Record}
use Rattle.bench_text.specs.declared.answers.TextError.{TextError}
use Rattle.bench_text.specs.declared.answers.TextError.TheVariants.{Line, BufferTooShort}
use Rattle.bench_text.specs.Reading.{placed}

-- one decimal digit or more, of a value below 2 ^ 64
pub record SpellsNumber (digits : List ℕ) (n : ℕ) : Type 0 where
  pub numeral : IsNumeral 10 digits
  pub valued : digits_value 10 digits ≡ n
  pub bounded : n < 2 ^ 64

-- two numbers, with one space between them
pub record SpellsNumbers (line : List ℕ) (p r : ℕ) : Type 0 where
  pub left : List ℕ
  pub right : List ℕ
  pub spaced : line ≡ left ++ (32 ∷ right)
  pub first : SpellsNumber left p
  pub second : SpellsNumber right r

-- the lower-case hex digits of bytes, two to a byte, the high half first
abbrev pub hex_of : List ℕ → List ℕ
hex_of [] = []
hex_of (b ∷ bs) = digit_glyph false (b / 16) ∷ digit_glyph false (b % 16) ∷ hex_of bs

-- the hex digits of 16 bytes
pub record SpellsRecord (line bytes : List ℕ) : Type 0 where
  pub sixteen : length bytes ≡ 16
  pub small : All (λ b. b < 256) bytes
  pub digits : line ≡ hex_of bytes

-- the lines, each ended by a newline
abbrev pub ended : List (List ℕ) → List ℕ
ended [] = []
ended (l ∷ ls) = l ++ (10 ∷ ended ls)

-- the same, but that the last newline may be left out
abbrev pub Laid : List ℕ → List (List ℕ) → Type 0
Laid text ls = (text ≡ ended ls) ⊎ (text ++ (10 ∷ []) ≡ ended ls)

-- each line spells 16 bytes of the code
pub record SpellsRecords (ls : List (List ℕ)) (code : List ℕ) : Type 0 where
  pub rows : List (List ℕ)
  pub each : AllZip SpellsRecord ls rows
  pub whole : flat_map (λ row. row) rows ≡ code

-- the text is a line with the two numbers, and then a line for each 16 bytes of the code
pub record Spells (text : List ℕ) (counts : BenchCounts) (code : List ℕ) : Type 0 where
  pub top : List ℕ
  pub others : List (List ℕ)
  pub numbers : SpellsNumbers top counts.places counts.results
  pub spelt : SpellsRecords others code
  pub counted : counts.records ≡ length others
  pub laid : Laid text (top ∷ others)

-- the line is what was expected
abbrev pub Meets : Expected → List ℕ → Type 0
Meets Numbers line = (p : ℕ) × (r : ℕ) × SpellsNumbers line p r
Meets Record line = (bytes : List ℕ) × SpellsRecord line bytes

-- what is expected after these lines
abbrev pub due : List (List ℕ) → Expected
due [] = Numbers
due (l ∷ ls) = Record

-- each line is what is expected there, and the records among them spell the code
abbrev pub Formed : List (List ℕ) → List ℕ → Type 0
Formed [] code = code ≡ []
Formed (l ∷ ls) code = Meets Numbers l × SpellsRecords ls code

-- the byte does not stand among these
abbrev pub Free : ℕ → List ℕ → Type 0
Free mark bs = All (λ b. b ≢ mark) bs

-- nothing, or a newline first
abbrev pub Ends : List ℕ → Type 0
Ends [] = Unit {0}
Ends (b ∷ bs) = b ≡ 10

-- line n is the first that is not of the form, and the lines before it spell the code. Only the first line of an empty text is a line that is not there
pub record Refuses (text : List ℕ) (n : ℕ) (want : Expected) (code : List ℕ) : Type 0 where
  pub front : List (List ℕ)
  pub line : List ℕ
  pub rest : List ℕ
  pub laid : text ≡ ended front ++ (line ++ rest)
  pub there : 0 < length front → 0 < length (line ++ rest)
  pub single : Free 10 line
  pub ends : Ends rest
  pub counted : n ≡ length front + 1
  pub wanted : want ≡ due front
  pub good : Formed front code
  pub bad : Meets want line → ⊥

-- what an answer says of the text, of the buffer as it was and of the buffer as it is
abbrev pub Tells : Result BenchCounts TextError → List ℕ → List ℕ → List ℕ → Type 0
Tells (Ok counts) text old new = (code : List ℕ) × Spells text counts code × (new ≡ placed code old)
Tells (Err (Line n want)) text old new = (code : List ℕ) × Refuses text n want code × (new ≡ placed code old)
Tells (Err BufferTooShort) text old new = (length old < length text / 2) × (new ≡ old)

-- what the answer says is so. A buffer shorter than half of the text is refused; with any other the counts and the code are answered
-- wherever the text spells them, and a line wherever it is the first that is not of the form
pub record Judges (answer : Result BenchCounts TextError) (text old new : List ℕ) : Type 0 where
  pub answer_holds : Tells answer text old new
  pub short_buffers_are_refused : length old < length text / 2 → answer ≡ Err BufferTooShort
  pub every_spelling_is_read : length text / 2 ≤ length old → (counts : BenchCounts) (code : List ℕ) → Spells text counts code → (answer ≡ Ok counts) × (new ≡ placed code old)
  pub every_fault_is_found : length text / 2 ≤ length old → (n : ℕ) (want : Expected) (code : List ℕ) → Refuses text n want code → (answer ≡ Err (Line n want)) × (new ≡ placed code old)
