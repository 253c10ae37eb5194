-- The lines of a text, from the first one on.
use Rattle.std.proofs.Common.{◌≡◌, ◌==◌, ℕ, suc, ◌+◌, ◌<◌, ◌≤◌, Bool, true, false, cond, List, [], ◌∷◌, length, length-append, sum_by, Some, Option, sym, refl, ap, ◌∙◌, ⊎_elim, arith}
use Rattle.std.specs.Option.{option_map_or}
use Rattle.std.specs.List.{before_first, after_first}
use Rattle.std.proofs.lemmas.Bool.{cond_both}
use Rattle.std.proofs.lemmas.Bool.Decides.{nat_tests}
use Rattle.std.proofs.lemmas.List.Sums.{sum_by-cons}
use Rattle.bench_text.specs.declared.answers.Expected.TheVariants.{Numbers}
use Rattle.bench_text.specs.declared.headings.Header.{Header}
use Rattle.bench_text.specs.Heading.{header_of}
use Rattle.bench_text.specs.Hex.{hex_record}
use Rattle.bench_text.specs.Lines.{begun, lines}
use Rattle.bench_text.specs.Reading.{refused, reading, records_from, lines_read}
use Rattle.bench_text.proofs.CutAtMark.{cut-cons, rejoined}

joined : (b : ℕ) (bs : List ℕ) → begun b (lines bs) ≡ (b ∷ before_first (λ b. b == 10) bs) ∷ lines (after_first (λ b. b == 10) bs) → lines (b ∷ bs) ≡ before_first (λ b. b == 10) (b ∷ bs) ∷ lines (after_first (λ b. b == 10) (b ∷ bs))
joined b bs more = let parts = cut-cons (λ c. c == 10) b bs in by (b == 10) ∙ (λ i. sym parts.0 i ∷ lines (sym parts.1 i))
  where
    by : (t : Bool) → cond t ([] ∷ lines bs) (begun b (lines bs)) ≡ cond t [] (b ∷ before_first (λ b. b == 10) bs) ∷ lines (cond t bs (after_first (λ b. b == 10) bs))
    by true = refl
    by false = more

-- the first line of a text that is not empty, and the lines after it
pub lines_step : (text : List ℕ) → 0 < length text → lines text ≡ before_first (λ b. b == 10) text ∷ lines (after_first (λ b. b == 10) text)
lines_step [] some = absurd (omega arith)
lines_step (b ∷ []) some = joined b [] refl
lines_step (b ∷ c ∷ bs) some = joined b (c ∷ bs) (ap (begun b) (lines_step (c ∷ bs) (omega arith)))

-- a record has 32 digits
pub record_length : (line bytes : List ℕ) → hex_record line ≡ Some bytes → length line ≡ 32
record_length line bytes e = grind (arith, nat_tests)

-- the two parts of a text have no more bytes than it
pub parts_fit : (mark : ℕ) (text : List ℕ) → length (before_first (λ b. b == mark) text) + length (after_first (λ b. b == mark) text) ≤ length text
parts_fit mark text =
    ⊎_elim
    (λ whole. omega (arith, ap length whole.0, ap length whole.1))
    (λ cut. omega (arith, ap length cut, length-append (before_first (λ b. b == mark) text) (mark ∷ after_first (λ b. b == mark) text)))
    (rejoined mark text)

-- what follows a record is 32 bytes shorter at least
pub shorter : (rest line later bytes : List ℕ) → line ≡ before_first (λ b. b == 10) rest → later ≡ after_first (λ b. b == 10) rest → Some bytes ≡ hex_record line → 32 + length later ≤ length rest
shorter rest line later bytes front back e = omega (arith, record_length line bytes (sym e), parts_fit 10 rest, ap length front, ap length back)

sum-begun : (b : ℕ) (ls : List (List ℕ)) → sum_by length (begun b ls) ≡ suc (sum_by length ls)
sum-begun b [] = refl
sum-begun b (l ∷ ls) = omega (arith, sum_by-cons length (b ∷ l) ls, sum_by-cons length l ls)

-- the lines have no more bytes than the text
pub lines_fit : (text : List ℕ) → sum_by length (lines text) ≤ length text
lines_fit [] = omega arith
lines_fit (b ∷ bs) =
    let more = lines_fit bs in
    cond_both (b == 10) ([] ∷ lines bs) (begun b (lines bs)) (λ ls. sum_by length ls ≤ suc (length bs)) (λ _. omega (arith, sum_by-cons length [] (lines bs))) (λ _. omega (arith, sum-begun b (lines bs)))

-- the first line, as it was read
pub at_header : (l : List ℕ) (ls : List (List ℕ)) (o : Option Header) → header_of l ≡ o → lines_read (l ∷ ls) ≡ option_map_or (λ h. records_from h 0 [] ls) o (refused 1 Numbers [])
at_header l ls o e = ap (λ (x : Option Header). option_map_or (λ h. records_from h 0 [] ls) x (refused 1 Numbers [])) e

-- an empty text is refused as a text with an empty first line is
split : (text : List ℕ) → reading text ≡ lines_read (before_first (λ b. b == 10) text ∷ lines (after_first (λ b. b == 10) text))
split [] = refl
split (b ∷ bs) = ap lines_read (lines_step (b ∷ bs) (omega arith))

-- a text by its first line and by what stands after it
pub whole_text : (text first rest : List ℕ) → first ≡ before_first (λ b. b == 10) text → rest ≡ after_first (λ b. b == 10) text → (o : Option Header) → o ≡ header_of first → reading text ≡ option_map_or (λ h. records_from h 0 [] (lines rest)) o (refused 1 Numbers [])
whole_text text first rest front back o e = split text ∙ (λ i. lines_read (sym front i ∷ lines (sym back i))) ∙ at_header first (lines rest) o (sym e)
