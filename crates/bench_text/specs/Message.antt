-- What is printed of an error.
use Rattle.std.specs.Prelude.{ℕ, List, ◌++◌, codes, decimal}
use Rattle.bench_text.specs.declared.answers.Expected.{Expected}
use Rattle.bench_text.specs.declared.answers.Expected.TheVariants.{Numbers, Record}
use Rattle.bench_text.specs.declared.answers.TextError.{TextError}
use Rattle.bench_text.specs.declared.answers.TextError.TheVariants.{Line, BufferTooShort}

-- the words for what a line has to be
abbrev pub words : Expected → List ℕ
words Numbers = codes "the number of places and the number of results"
words Record = codes "32 lower-case hex digits"

-- the text of an error
abbrev pub message : TextError → List ℕ
message (Line n want) = codes "line " ++ (decimal n ++ (codes ": expected " ++ words want))
message BufferTooShort = codes "the code buffer is shorter than half of the text"
