-- A text is read just where it spells what is read, and refused just at the first line that is not of the form.
use Rattle.std.proofs.Common.{◌≡◌, ◌≢◌, ℕ, ◌+◌, ◌/◌, ◌<◌, ◌≤◌, List, [], ◌∷◌, ◌++◌, length, Some, None, Err, Result, sym, refl, ap, ◌∙◌, subst, ⊎_elim, arith}
use Rattle.std.specs.List.{AllZip, AllByRecursion}
use Rattle.std.proofs.lemmas.List.{nil_from_length}
use Rattle.std.proofs.lemmas.Bool.{cases_lt}
use Rattle.std.proofs.lemmas.List.Elements.{All-nil}
use Rattle.bench_text.specs.declared.answers.BenchCounts.{BenchCounts}
use Rattle.bench_text.specs.declared.answers.Expected.{Expected}
use Rattle.bench_text.specs.declared.answers.Expected.TheVariants.{Numbers, Record}
use Rattle.bench_text.specs.declared.answers.TextError.{TextError}
use Rattle.bench_text.specs.declared.answers.TextError.TheVariants.{BufferTooShort}
use Rattle.bench_text.specs.declared.headings.Header.{Header}
use Rattle.bench_text.specs.Heading.{header_of}
use Rattle.bench_text.specs.Lines.{lines}
use Rattle.bench_text.specs.Reading.{Reading, given, refused, counts_of, lines_read, reading, answer_of, code_of, placed, answered, filled}
use Rattle.bench_text.specs.Spelling.{SpellsRecord, Spells, Meets, Formed, due, Refuses, Free, Ends, ended, Tells, Judges}
use Rattle.bench_text.proofs.Options.{cases_option}
use Rattle.bench_text.proofs.LineLayout.{Whole, lines_laid, laid_lines, no_lines, all_free, stands, lines_stand}
use Rattle.bench_text.proofs.LineByLine.{at_header}
use Rattle.bench_text.proofs.LineForms.{header_spelt, header_read, numbers_whole, record_whole}
use Rattle.bench_text.proofs.BufferContents.{at_short, at_long}
use Rattle.bench_text.proofs.RecordLines.{records_spelt, records_read, records_refused, records_bad}

spelt_lines : (text : List ℕ) (counts : BenchCounts) (code : List ℕ) (ls : List (List ℕ)) → lines text ≡ ls → lines_read ls ≡ given counts code → Spells text counts code
spelt_lines text counts code [] split e = absurd (cc)
spelt_lines text counts code (l ∷ ls) split e =
    ⊎_elim
    (λ none. let step = at_header l ls None none in absurd (cc))
    (λ some.
    let spelt = records_spelt some.0 0 [] ls counts code (sym (at_header l ls (Some some.0) some.1) ∙ e) in
    subst (λ (x : BenchCounts). Spells text x code) (sym spelt.3) (record {
      top = l;
      others = ls;
      numbers = header_spelt l some.0 some.1;
      spelt = record { rows = spelt.0; each = spelt.1; whole = spelt.2 };
      counted = omega arith;
      laid = laid_lines (l ∷ ls) text split;
    }))
    (cases_option (header_of l))

spelt_if_read : (text : List ℕ) (counts : BenchCounts) (code : List ℕ) → reading text ≡ given counts code → Spells text counts code
spelt_if_read text counts code e = spelt_lines text counts code (lines text) refl e

all_whole : (ls rows : List (List ℕ)) → AllZip SpellsRecord ls rows → AllByRecursion Whole ls
all_whole [] rows each = tt
all_whole (l ∷ ls) [] each = absurd each
all_whole (l ∷ ls) (row ∷ rows) each = (record_whole l row each.0, all_whole ls rows each.1)

read_if_spelt : (text : List ℕ) (counts : BenchCounts) (code : List ℕ) → Spells text counts code → reading text ≡ given counts code
read_if_spelt text counts code h =
    let p = counts.places in
    let r = counts.results in
    let head : Header = record { places = p; results = r } in
    let records = h.spelt in
    let count : 0 + length h.others ≡ counts.records = omega (arith, h.counted) in
    ap lines_read (lines_laid text h.top h.others (numbers_whole h.top p r h.numbers, all_whole h.others records.rows records.each) h.laid)
    ∙ at_header h.top h.others (Some head) (header_read h.top p r h.numbers)
    ∙ records_read head 0 [] h.others records.rows records.each
    ∙ (λ i. given (counts_of head (count i)) (records.whole i))

no_numbers : (l : List ℕ) → header_of l ≡ None → Meets Numbers l → ⊥
no_numbers l none meets = let read = header_read l meets.0 meets.1 meets.2 in absurd (cc)

refused_lines : (text : List ℕ) (n : ℕ) (want : Expected) (code : List ℕ) (ls : List (List ℕ)) → lines text ≡ ls → lines_read ls ≡ refused n want code → Refuses text n want code
refused_lines text n want code [] split e =
    let count : n ≡ 1 = cc in
    let kind : want ≡ Numbers = cc in
    let none : code ≡ [] = cc in
    record { front = []; line = []; rest = []; laid = no_lines text split; there = λ some. some; single = All-nil (λ b. b ≢ 10); ends = tt; counted = count; wanted = kind; good = none; bad = subst (λ (x : Expected). Meets x [] → ⊥) (sym kind) (no_numbers [] refl) }
refused_lines text n want code (l ∷ ls) split e =
    ⊎_elim
    (λ none.
    let step = at_header l ls None none in
    let count : n ≡ 1 = cc in
    let kind : want ≡ Numbers = cc in
    let empty : code ≡ [] = cc in
    let place = stands [] l ls text split in
    record { front = []; line = l; rest = place.rest; laid = place.laid; there = λ _. place.there; single = place.single; ends = place.ends; counted = count; wanted = kind; good = empty; bad = subst (λ (x : Expected). Meets x l → ⊥) (sym kind) (no_numbers l none) })
    (λ some.
    let fault = records_refused some.0 0 [] ls n want code (sym (at_header l ls (Some some.0) some.1) ∙ e) in
    let place = stands (l ∷ fault.front) fault.line fault.more text (split ∙ ap (λ (x : List (List ℕ)). l ∷ x) fault.split) in
    record {
      front = l ∷ fault.front;
      line = fault.line;
      rest = place.rest;
      laid = place.laid;
      there = λ _. place.there;
      single = place.single;
      ends = place.ends;
      counted = omega (arith, fault.counted);
      wanted = fault.wanted;
      good = ((some.0.places, some.0.results, header_spelt l some.0 some.1), record { rows = fault.rows; each = fault.each; whole = fault.whole });
      bad = subst (λ (x : Expected). Meets x fault.line → ⊥) (sym fault.wanted) fault.bad;
    })
    (cases_option (header_of l))

fault_if_refused : (text : List ℕ) (n : ℕ) (want : Expected) (code : List ℕ) → reading text ≡ refused n want code → Refuses text n want code
fault_if_refused text n want code e = refused_lines text n want code (lines text) refl e

refused_at : (text : List ℕ) (front : List (List ℕ)) (line rest code : List ℕ) → text ≡ ended front ++ (line ++ rest) → (0 < length front → 0 < length (line ++ rest)) → Free 10 line → Ends rest → Formed front code → (Meets (due front) line → ⊥) → reading text ≡ refused (length front + 1) (due front) code
refused_at text [] line rest code laid there single ends good bad =
    let empty = ap (λ (x : List ℕ). refused 1 Numbers x) (sym good) in
    ⊎_elim
    (λ some.
    let split = lines_stand text [] line rest laid tt some single ends in
    ap lines_read split.1 ∙ ⊎_elim (λ none. at_header line split.0 None none) (λ read. absurd (bad (read.0.places, read.0.results, header_spelt line read.0 read.1))) (cases_option (header_of line)) ∙ empty)
    (λ none. ap reading (laid ∙ nil_from_length (line ++ rest) (omega arith)) ∙ empty)
    (cases_lt 0 (length (line ++ rest)))
refused_at text (l ∷ front) line rest code laid there single ends good bad =
    let p = good.0.0 in
    let r = good.0.1 in
    let head : Header = record { places = p; results = r } in
    let records = good.1 in
    let split = lines_stand text (l ∷ front) line rest laid (all_free (l ∷ front) (numbers_whole l p r good.0.2, all_whole front records.rows records.each)) (there (omega arith)) single ends in
    let count : 0 + 2 + length front ≡ length (l ∷ front) + 1 = omega arith in
    ap lines_read split.1
    ∙ at_header l (front ++ (line ∷ split.0)) (Some head) (header_read l p r good.0.2)
    ∙ records_bad head 0 [] front records.rows line split.0 records.each bad
    ∙ (λ i. refused (count i) Record (records.whole i))

refused_if_fault : (text : List ℕ) (n : ℕ) (want : Expected) (code : List ℕ) → Refuses text n want code → reading text ≡ refused n want code
refused_if_fault text n want code h =
    refused_at text h.front h.line h.rest code h.laid h.there h.single h.ends h.good (subst (λ (x : Expected). Meets x h.line → ⊥) h.wanted h.bad) ∙ (λ i. refused (sym h.counted i) (sym h.wanted i) code)

tells : (text old : List ℕ) (what : Reading) → reading text ≡ what → Tells (answer_of what) text old (placed (code_of what) old)
tells text old (given counts code) e = (code, spelt_if_read text counts code e, refl)
tells text old (refused n want code) e = (code, fault_if_refused text n want code e, refl)

-- an equal answer tells the same, of an equal buffer
told : (text old x y : List ℕ) (a b : Result BenchCounts TextError) → a ≡ b → x ≡ y → Tells a text old x → Tells b text old y
told text old x y a b said left h = subst (λ (z : List ℕ). Tells b text old z) left (subst (λ (r : Result BenchCounts TextError). Tells r text old x) said h)

pub judged : (text old new : List ℕ) (answer : Result BenchCounts TextError) → answer ≡ answered text old → new ≡ filled text old → Judges answer text old new
judged text old new answer said left =
    let read : (what : Reading) → length text / 2 ≤ length old → reading text ≡ what → (answer ≡ answer_of what) × (new ≡ placed (code_of what) old) = λ what long e.
    let same = at_long text old what long e in
    (said ∙ sym same.0, left ∙ sym same.1) in
    record {
      answer_holds = ⊎_elim
          (λ short. let same = at_short text old short in told text old old new (Err BufferTooShort) answer (same.0 ∙ sym said) (same.1 ∙ sym left) (short, refl))
          (λ long. let same = read (reading text) long refl in told text old (placed (code_of (reading text)) old) new (answer_of (reading text)) answer (sym same.0) (sym same.1) (tells text old (reading text) refl))
          (cases_lt (length old) (length text / 2));
      short_buffers_are_refused = λ short. said ∙ sym (at_short text old short).0;
      every_spelling_is_read = λ long counts code h. read (given counts code) long (read_if_spelt text counts code h);
      every_fault_is_found = λ long n want code h. read (refused n want code) long (refused_if_fault text n want code h);
    }
