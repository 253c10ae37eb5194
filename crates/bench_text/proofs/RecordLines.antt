-- The lines after the first are read just where they spell records, and refused just at the first that spells none.
use Rattle.std.proofs.Common.{◌≡◌, ◌==◌, ℕ, ◌+◌, ◌<◌, List, [], ◌∷◌, ◌++◌, length, Some, None, Option, sym, refl, ap, ◌∙◌, ⊎_elim, append_assoc, append-nil, arith, sum_by}
use Rattle.std.specs.List.{after_first, before_first, flat_map, AllZip}
use Rattle.std.specs.Option.{option_map_or}
use Rattle.std.proofs.lemmas.List.Sums.{sum_by-cons}
use Rattle.bench_text.specs.declared.answers.BenchCounts.{BenchCounts}
use Rattle.bench_text.specs.declared.answers.Expected.{Expected}
use Rattle.bench_text.specs.declared.answers.Expected.TheVariants.{Record}
use Rattle.bench_text.specs.declared.headings.Header.{Header}
use Rattle.bench_text.specs.Hex.{hex_record}
use Rattle.bench_text.specs.Lines.{lines}
use Rattle.bench_text.specs.Reading.{given, refused, counts_of, records_from}
use Rattle.bench_text.specs.Spelling.{SpellsRecord, Meets}
use Rattle.bench_text.proofs.Options.{cases_option}
use Rattle.bench_text.proofs.LineByLine.{lines_step, record_length}
use Rattle.bench_text.proofs.HexRecords.{record_spelt, record_read}

-- one line of the records, as it was read
at_record : (h : Header) (n : ℕ) (code l : List ℕ) (ls : List (List ℕ)) (o : Option (List ℕ)) → hex_record l ≡ o → records_from h n code (l ∷ ls) ≡ option_map_or (λ bytes. records_from h (n + 1) (code ++ bytes) ls) o (refused (n + 2) Record code)
at_record h n code l ls o e = ap (λ (x : Option (List ℕ)). option_map_or (λ bytes. records_from h (n + 1) (code ++ bytes) ls) x (refused (n + 2) Record code)) e

-- after a record
pub record_step : (h : Header) (n : ℕ) (code l : List ℕ) (ls : List (List ℕ)) (bytes : List ℕ) → hex_record l ≡ Some bytes → (records_from h n code (l ∷ ls) ≡ records_from h (n + 1) (code ++ bytes) ls) × (length bytes ≡ 16) × (sum_by length (l ∷ ls) ≡ 32 + sum_by length ls)
record_step h n code l ls bytes e = (at_record h n code l ls (Some bytes) e, (record_spelt l bytes e).sixteen, omega (arith, record_length l bytes e, sum_by-cons length l ls))

-- the first line of a text that is not empty, as a record and as none
module _ (h : Header) (n : ℕ) (code rest line later : List ℕ) (some : 0 < length rest) (front : line ≡ before_first (λ b. b == 10) rest) (back : later ≡ after_first (λ b. b == 10) rest) where
  by_lines : records_from h n code (line ∷ lines later) ≡ records_from h n code (lines rest)
  by_lines = sym (ap (records_from h n code) (lines_step rest some ∙ (λ i. sym front i ∷ lines (sym back i))))

  pub no_record : None ≡ hex_record line → refused (n + 2) Record code ≡ records_from h n code (lines rest)
  no_record e = sym (at_record h n code line (lines later) None (sym e)) ∙ by_lines

  pub one_record : (bytes : List ℕ) → Some bytes ≡ hex_record line → records_from h (n + 1) (code ++ bytes) (lines later) ≡ records_from h n code (lines rest)
  one_record bytes e = sym (at_record h n code line (lines later) (Some bytes) (sym e)) ∙ by_lines

pub records_spelt : (h : Header) (n : ℕ) (code : List ℕ) (ls : List (List ℕ)) (counts : BenchCounts) (all : List ℕ) → records_from h n code ls ≡ given counts all → (rows : List (List ℕ)) × AllZip SpellsRecord ls rows × (code ++ flat_map (λ row. row) rows ≡ all) × (counts ≡ counts_of h (n + length ls))
records_spelt h n code [] counts all e =
    let same : code ≡ all = cc in
    let head : counts ≡ counts_of h n = cc in
    let count : n ≡ n + 0 = omega arith in
    ([], tt, append-nil code ∙ same, head ∙ ap (counts_of h) count)
records_spelt h n code (l ∷ ls) counts all e =
    ⊎_elim
    (λ none. let step = at_record h n code l ls None none in absurd (cc))
    (λ some.
    let more = records_spelt h (n + 1) (code ++ some.0) ls counts all (sym (at_record h n code l ls (Some some.0) some.1) ∙ e) in
    let count : n + 1 + length ls ≡ n + length (l ∷ ls) = omega arith in
    (some.0 ∷ more.0, (record_spelt l some.0 some.1, more.1), sym (append_assoc code some.0 (flat_map (λ row. row) more.0)) ∙ more.2, more.3 ∙ ap (counts_of h) count))
    (cases_option (hex_record l))

pub records_read : (h : Header) (n : ℕ) (code : List ℕ) (ls rows : List (List ℕ)) → AllZip SpellsRecord ls rows → records_from h n code ls ≡ given (counts_of h (n + length ls)) (code ++ flat_map (λ row. row) rows)
records_read h n code [] [] each =
    let count : n ≡ n + 0 = omega arith in
    λ i. given (counts_of h (count i)) (sym (append-nil code) i)
records_read h n code [] (row ∷ rows) each = absurd each
records_read h n code (l ∷ ls) [] each = absurd each
records_read h n code (l ∷ ls) (row ∷ rows) each =
    let count : n + 1 + length ls ≡ n + length (l ∷ ls) = omega arith in
    at_record h n code l ls (Some row) (record_read l row each.0) ∙ records_read h (n + 1) (code ++ row) ls rows each.1 ∙ (λ i. given (counts_of h (count i)) (append_assoc code row (flat_map (λ r. r) rows) i))

-- the first of the lines that is no record, and the code of the lines before it
pub record NoRecord (n : ℕ) (code : List ℕ) (ls : List (List ℕ)) (m : ℕ) (want : Expected) (all : List ℕ) : Type 0 where
  pub front : List (List ℕ)
  pub line : List ℕ
  pub more : List (List ℕ)
  pub rows : List (List ℕ)
  pub split : ls ≡ front ++ (line ∷ more)
  pub each : AllZip SpellsRecord front rows
  pub whole : code ++ flat_map (λ row. row) rows ≡ all
  pub bad : Meets Record line → ⊥
  pub counted : m ≡ n + 2 + length front
  pub wanted : want ≡ Record

unread : (l : List ℕ) → hex_record l ≡ None → Meets Record l → ⊥
unread l none meets = let read = record_read l meets.0 meets.1 in absurd (cc)

pub records_refused : (h : Header) (n : ℕ) (code : List ℕ) (ls : List (List ℕ)) (m : ℕ) (want : Expected) (all : List ℕ) → records_from h n code ls ≡ refused m want all → NoRecord n code ls m want all
records_refused h n code [] m want all e = absurd (cc)
records_refused h n code (l ∷ ls) m want all e =
    ⊎_elim
    (λ none.
    let step = at_record h n code l ls None none in
    let same : n + 2 ≡ m = cc in
    let kind : want ≡ Record = cc in
    let kept : code ≡ all = cc in
    record { front = []; line = l; more = ls; rows = []; split = refl; each = tt; whole = append-nil code ∙ kept; bad = unread l none; counted = omega arith; wanted = kind })
    (λ some.
    let later = records_refused h (n + 1) (code ++ some.0) ls m want all (sym (at_record h n code l ls (Some some.0) some.1) ∙ e) in
    record {
      front = l ∷ later.front;
      line = later.line;
      more = later.more;
      rows = some.0 ∷ later.rows;
      split = ap (λ (x : List (List ℕ)). l ∷ x) later.split;
      each = (record_spelt l some.0 some.1, later.each);
      whole = sym (append_assoc code some.0 (flat_map (λ row. row) later.rows)) ∙ later.whole;
      bad = later.bad;
      counted = omega (arith, later.counted);
      wanted = later.wanted;
    })
    (cases_option (hex_record l))

pub records_bad : (h : Header) (n : ℕ) (code : List ℕ) (front rows : List (List ℕ)) (line : List ℕ) (more : List (List ℕ)) → AllZip SpellsRecord front rows → (Meets Record line → ⊥) → records_from h n code (front ++ (line ∷ more)) ≡ refused (n + 2 + length front) Record (code ++ flat_map (λ row. row) rows)
records_bad h n code [] [] line more each bad =
    let count : n + 2 ≡ n + 2 + 0 = omega arith in
    ⊎_elim (λ none. at_record h n code line more None none ∙ (λ i. refused (count i) Record (sym (append-nil code) i))) (λ some. absurd (bad (some.0, record_spelt line some.0 some.1))) (cases_option (hex_record line))
records_bad h n code [] (row ∷ rows) line more each bad = absurd each
records_bad h n code (l ∷ front) [] line more each bad = absurd each
records_bad h n code (l ∷ front) (row ∷ rows) line more each bad =
    let count : n + 1 + 2 + length front ≡ n + 2 + length (l ∷ front) = omega arith in
    at_record h n code l (front ++ (line ∷ more)) (Some row) (record_read l row each.0) ∙ records_bad h (n + 1) (code ++ row) front rows line more each.1 bad ∙ (λ i. refused (count i) Record (append_assoc code row (flat_map (λ r. r) rows) i))
