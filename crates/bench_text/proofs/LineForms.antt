-- A line is read just where it is what is expected there.
use Rattle.std.proofs.Common.{◌≡◌, ◌==◌, ◌≢◌, ℕ, ◌/◌, ◌%◌, ◌<◌, ◌≤◌, false, List, [], ◌∷◌, ◌++◌, length, Some, sym, ap, ◌∙◌, subst, ⊎_elim, arith, length-append}
use Rattle.std.specs.Str.Parse.{AllDigits}
use Rattle.std.specs.Fmt.{digit_glyph}
use Rattle.std.specs.List.{before_first, after_first}
use Rattle.std.proofs.lemmas.List.Elements.{All-nil, All-cons, All-append}
use Rattle.std.proofs.lemmas.Option.{option_and_then_some}
use Rattle.std.proofs.lemmas.Str.Parse.{digit_from_value}
use Rattle.std.proofs.lemmas.Bool.Decides.{nat_tests}
use Rattle.bench_text.specs.declared.headings.Header.{Header}
use Rattle.bench_text.specs.Steps.{◌>>=◌}
use Rattle.bench_text.specs.Decimal.{decimal_number}
use Rattle.bench_text.specs.Heading.{header_of}
use Rattle.bench_text.specs.Spelling.{SpellsNumbers, SpellsRecord, hex_of, Free}
use Rattle.bench_text.proofs.LineLayout.{Whole}
use Rattle.bench_text.proofs.CutAtMark.{rejoined, cut_marked}
use Rattle.bench_text.proofs.DecimalNumbers.{number_spelt, number_read}

-- a mark below the digits is none of them
digits_free : (mark : ℕ) (ds : List ℕ) → mark < 48 → AllDigits 10 ds → Free mark ds
digits_free mark [] low digits = All-nil (λ b. b ≢ mark)
digits_free mark (c ∷ cs) low digits = All-cons (λ b. b ≢ mark) c cs (λ e. omega (arith, digit_from_value c digits.0)) (digits_free mark cs low digits.1)

pub header_spelt : (line : List ℕ) (h : Header) → header_of line ≡ Some h → SpellsNumbers line h.places h.results
header_spelt line h e =
    let left = before_first (λ b. b == 32) line in
    let right = after_first (λ b. b == 32) line in
    option_and_then_some _ (decimal_number left) h e (λ p first more. option_and_then_some _ (decimal_number right) h more (λ r second joined.
    let same : record { places = p; results = r } ≡ h = cc in
    let results = number_spelt right r second in
    let spaced : line ≡ left ++ (32 ∷ right) = ⊎_elim (λ whole. absurd (omega (arith, results.numeral.0, ap length whole.1))) (λ split. split) (rejoined 32 line) in
    subst (λ (x : Header). SpellsNumbers line x.places x.results) same (record { left = left; right = right; spaced = spaced; first = number_spelt left p first; second = results })))

pub header_read : (line : List ℕ) (p r : ℕ) → SpellsNumbers line p r → header_of line ≡ Some (record { places = p; results = r })
header_read line p r h =
    let parts = cut_marked 32 h.left h.right (digits_free 32 h.left (omega arith) h.first.numeral.1) in
    let left : decimal_number (before_first (λ b. b == 32) line) ≡ Some p = ap (λ (x : List ℕ). decimal_number (before_first (λ b. b == 32) x)) h.spaced ∙ ap decimal_number parts.0 ∙ number_read h.left p h.first in
    let right : decimal_number (after_first (λ b. b == 32) line) ≡ Some r = ap (λ (x : List ℕ). decimal_number (after_first (λ b. b == 32) x)) h.spaced ∙ ap decimal_number parts.1 ∙ number_read h.right r h.second in
    λ i. left i >>= λ x. right i >>= λ y. Some (record { places = x; results = y })

pub numbers_whole : (line : List ℕ) (p r : ℕ) → SpellsNumbers line p r → Whole line
numbers_whole line p r h =
    subst Whole (sym h.spaced) (
      omega (arith, length-append h.left (32 ∷ h.right)),
      All-append (λ b. b ≢ 10) h.left (32 ∷ h.right) (digits_free 10 h.left (omega arith) h.first.numeral.1) (All-cons (λ b. b ≢ 10) 32 h.right (λ e. omega arith) (digits_free 10 h.right (omega arith) h.second.numeral.1)),
    )

glyph_high : (d : ℕ) → 48 ≤ digit_glyph false d
glyph_high d = grind (arith, nat_tests)

hex_free : (bytes : List ℕ) → Free 10 (hex_of bytes)
hex_free [] = All-nil (λ b. b ≢ 10)
hex_free (b ∷ bytes) =
    let low = All-cons (λ b. b ≢ 10) (digit_glyph false (b % 16)) (hex_of bytes) (λ e. omega (arith, glyph_high (b % 16))) (hex_free bytes) in
    All-cons (λ b. b ≢ 10) (digit_glyph false (b / 16)) (digit_glyph false (b % 16) ∷ hex_of bytes) (λ e. omega (arith, glyph_high (b / 16))) low

pub record_whole : (line bytes : List ℕ) → SpellsRecord line bytes → Whole line
record_whole line [] h = absurd (omega (arith, h.sixteen))
record_whole line (b ∷ bytes) h = subst Whole (sym h.digits) (omega arith, hex_free (b ∷ bytes))
