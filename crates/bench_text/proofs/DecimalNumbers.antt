-- A decimal number is read just where digits spell it.
use Rattle.std.proofs.Common.{◌≡◌, ℕ, ◌+◌, ◌*◌, ◌^◌, ◌<◌, ◌≤◌, List, [], ◌∷◌, length, get_or, drop, Some, Option, refl, ap, ◌∙◌, arith}
use Rattle.std.specs.Str.Parse.{AllDigits, digits_value_after}
use Rattle.std.specs.Char.{digit_value}
use Rattle.std.proofs.lemmas.Bool.Decides.{nat_tests}
use Rattle.std.proofs.lemmas.List.{at_drop_more}
use Rattle.std.proofs.lemmas.Option.{option_and_then_some}
use Rattle.bench_text.specs.Steps.{◌>>=◌}
use Rattle.bench_text.specs.Decimal.{decimal_more, decimal_from, decimal_number}
use Rattle.bench_text.specs.Spelling.{SpellsNumber}

digit_read : (n c m : ℕ) → decimal_more n c ≡ Some m → (digit_value c < 10) × (n * 10 + digit_value c ≡ m) × (m < 2 ^ 64)
digit_read n c m e = grind (arith, nat_tests)

digit_reads : (n c : ℕ) → digit_value c < 10 → n * 10 + digit_value c < 2 ^ 64 → decimal_more n c ≡ Some (n * 10 + digit_value c)
digit_reads n c small fits = grind (arith, nat_tests)

value_ge : (n : ℕ) (ds : List ℕ) → n ≤ digits_value_after 10 n ds
value_ge n [] = omega arith
value_ge n (c ∷ cs) = omega (arith, value_ge (n * 10 + digit_value c) cs)

digits_read : (n : ℕ) (ds : List ℕ) (v : ℕ) → n < 2 ^ 64 → decimal_from n ds ≡ Some v → AllDigits 10 ds × (digits_value_after 10 n ds ≡ v) × (v < 2 ^ 64)
digits_read n [] v fits e = let same : n ≡ v = cc in (tt, same, omega arith)
digits_read n (c ∷ cs) v fits e =
    option_and_then_some (λ m. decimal_from m cs) (decimal_more n c) v e (λ m more last.
    let here = digit_read n c m more in
    let rest = digits_read m cs v here.2 last in
    ((here.0, rest.0), ap (λ (k : ℕ). digits_value_after 10 k cs) here.1 ∙ rest.1, rest.2))

digits_reads : (n : ℕ) (ds : List ℕ) → AllDigits 10 ds → digits_value_after 10 n ds < 2 ^ 64 → decimal_from n ds ≡ Some (digits_value_after 10 n ds)
digits_reads n [] digits fits = refl
digits_reads n (c ∷ cs) digits fits =
    ap (λ (o : Option ℕ). o >>= λ m. decimal_from m cs) (digit_reads n c digits.0 (omega (arith, value_ge (n * 10 + digit_value c) cs))) ∙ digits_reads (n * 10 + digit_value c) cs digits.1 fits

pub number_spelt : (ds : List ℕ) (n : ℕ) → decimal_number ds ≡ Some n → SpellsNumber ds n
number_spelt [] n e = absurd (cc)
number_spelt (c ∷ cs) n e =
    let read = digits_read 0 (c ∷ cs) n (omega arith) e in
    record { numeral = (omega arith, read.0); valued = read.1; bounded = read.2 }

pub number_read : (ds : List ℕ) (n : ℕ) → SpellsNumber ds n → decimal_number ds ≡ Some n
number_read [] n h = absurd (omega (arith, h.numeral.0))
number_read (c ∷ cs) n h = digits_reads 0 (c ∷ cs) h.numeral.1 (omega (arith, h.valued, h.bounded)) ∙ ap (λ (m : ℕ). Some m) h.valued

-- one digit of a loop over the digits
pub digit_step : (ds : List ℕ) (i n : ℕ) → i < length ds → decimal_from n (drop i ds) ≡ (decimal_more n (get_or ds i 0) >>= λ m. decimal_from m (drop (i + 1) ds))
digit_step ds i n within = at_drop_more (decimal_from n) ds i 0 within
