-- A code record is read just where hex digits spell it.
use Rattle.std.proofs.Common.{◌≡◌, ℕ, suc, ◌+◌, ◌*◌, ◌/◌, ◌%◌, ◌<◌, false, List, [], ◌∷◌, length, Some, sym, refl, ap, ◌∙◌, subst, arith}
use Rattle.std.specs.Fmt.{digit_glyph}
use Rattle.std.specs.List.{All}
use Rattle.std.proofs.lemmas.Bool.Decides.{nat_tests}
use Rattle.std.proofs.lemmas.List.Elements.{All-nil, All-cons, All-head, All-tail}
use Rattle.std.proofs.lemmas.Option.{option_and_then_some}
use Rattle.bench_text.specs.Steps.{◌>>=◌}
use Rattle.bench_text.specs.Hex.{hex_digit, hex_byte, hex_bytes, hex_record}
use Rattle.bench_text.specs.Spelling.{hex_of, SpellsRecord}
use Rattle.bench_text.proofs.LineByLine.{record_length}
use Rattle.bench_text.proofs.RecordBytes.{long_record}

digit_spelt : (c d : ℕ) → hex_digit c ≡ Some d → (c ≡ digit_glyph false d) × (d < 16)
digit_spelt c d e = grind (arith, nat_tests)

digit_read : (d : ℕ) → d < 16 → hex_digit (digit_glyph false d) ≡ Some d
digit_read d small = grind (arith, nat_tests)

byte_spelt : (h l b : ℕ) → hex_byte h l ≡ Some b → (h ≡ digit_glyph false (b / 16)) × (l ≡ digit_glyph false (b % 16)) × (b < 256)
byte_spelt h l b e =
    option_and_then_some _ (hex_digit h) b e (λ high first more. option_and_then_some _ (hex_digit l) b more (λ low second joined.
    let upper = digit_spelt h high first in
    let lower = digit_spelt l low second in
    let whole : high * 16 + low ≡ b = cc in
    let quotient : high ≡ b / 16 = omega arith in
    let remainder : low ≡ b % 16 = omega arith in
    (upper.0 ∙ ap (digit_glyph false) quotient, lower.0 ∙ ap (digit_glyph false) remainder, omega arith)))

byte_read : (b : ℕ) → b < 256 → hex_byte (digit_glyph false (b / 16)) (digit_glyph false (b % 16)) ≡ Some b
byte_read b small =
    let whole : b / 16 * 16 + b % 16 ≡ b = omega arith in
    (λ i. digit_read (b / 16) (omega arith) i >>= λ high. digit_read (b % 16) (omega arith) i >>= λ low. Some (high * 16 + low)) ∙ ap (λ (x : ℕ). Some x) whole

bytes_spelt : (ds bytes : List ℕ) → hex_bytes ds ≡ Some bytes → (ds ≡ hex_of bytes) × All (λ b. b < 256) bytes × (length ds ≡ 2 * length bytes)
bytes_spelt [] [] e = (refl, All-nil (λ b. b < 256), refl)
bytes_spelt [] (b ∷ bytes) e = absurd (cc)
bytes_spelt (h ∷ []) bytes e = absurd (cc)
bytes_spelt (h ∷ l ∷ ds) bytes e =
    option_and_then_some _ (hex_byte h l) bytes e (λ b first later. option_and_then_some _ (hex_bytes ds) bytes later (λ others second joined.
    let whole : b ∷ others ≡ bytes = cc in
    let here = byte_spelt h l b first in
    let more = bytes_spelt ds others second in
    subst (λ (x : List ℕ). (h ∷ l ∷ ds ≡ hex_of x) × All (λ b. b < 256) x × (suc (suc (length ds)) ≡ 2 * length x)) whole ((λ i. here.0 i ∷ here.1 i ∷ more.0 i), All-cons (λ b. b < 256) b others here.2 more.1, omega (arith, more.2))))

bytes_read : (bytes : List ℕ) → All (λ b. b < 256) bytes → hex_bytes (hex_of bytes) ≡ Some bytes
bytes_read [] small = refl
bytes_read (b ∷ bytes) small =
    λ i. byte_read b (All-head (λ b. b < 256) b bytes small) i >>= λ x. bytes_read bytes (All-tail (λ b. b < 256) b bytes small) i >>= λ more. Some (x ∷ more)

length-hex_of : (bytes : List ℕ) → length (hex_of bytes) ≡ 2 * length bytes
length-hex_of [] = refl
length-hex_of (b ∷ bytes) = omega (arith, length-hex_of bytes)

pub record_spelt : (line bytes : List ℕ) → hex_record line ≡ Some bytes → SpellsRecord line bytes
record_spelt line bytes e =
    let long = record_length line bytes e in
    let spelt = bytes_spelt line bytes (long_record line long ∙ e) in
    record { sixteen = omega (arith, spelt.2); small = spelt.1; digits = spelt.0 }

pub record_read : (line bytes : List ℕ) → SpellsRecord line bytes → hex_record line ≡ Some bytes
record_read line bytes h =
    let long : length line ≡ 32 = ap length h.digits ∙ length-hex_of bytes ∙ ap (λ (n : ℕ). 2 * n) h.sixteen in
    sym (long_record line long) ∙ ap hex_bytes h.digits ∙ bytes_read bytes h.small
