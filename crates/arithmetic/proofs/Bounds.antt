-- Powers of exponents and whole numbers by their bounds, for whoever builds on them. Assumes nothing.
use Rattle.std.specs.Prelude.{◌≡◌, ◌<◌, Bool, true, false, if◌then◌else◌, ℤ, ◌+ℤ◌, ◌-ℤ◌, ◌≤ℤ◌, Some, None, Option, FitsSigned, ◌≢◌, int_div, int_le, int_lt, unsigned_abs}
use Rattle.std.specs.Int.{w8, w32, cast_signed, cast_unsigned}
use Rattle.std.specs.Option.{SomeIff}
use Rattle.std.proofs.Common.{ap, ◌∙◌, arith}
use Rattle.std.proofs.lemmas.Int.{ints, to_z-of_z}
use Rattle.std.proofs.lemmas.Bool.Decides.{nat_tests}
use Rattle.arithmetic.specs.DimensionMeaning.{nearest_power}
use Rattle.arithmetic.specs.Ranges.{highest, is_exponent, is_whole, lowest}
use Rattle.arithmetic.specs.WholeMeaning.{exact, quotient}
use Rattle.arithmetic.specs.declared.exponent.Exponent.{Exponent}

-- ---- exponents

pub exponent_bounds : (z : ℤ) → is_exponent z ≡ true → (lowest ≤ℤ z) × (z ≤ℤ highest)
exponent_bounds z e = (grind (arith, ints, nat_tests), grind (arith, ints, nat_tests))

pub exponent_fits : (x : Exponent) → FitsSigned w8 x.power
exponent_fits x = record { sfits = grind (arith, ints, nat_tests) }

-- a sum or a difference of exponents, as the code holds it
pub sum_held : (x y : Exponent) → cast_signed w8 (cast_unsigned w8 (cast_signed w8 (cast_unsigned w8 x.power) +ℤ cast_signed w8 (cast_unsigned w8 y.power))) ≡ x.power +ℤ y.power
sum_held x y = grind (arith, ints, nat_tests)

pub difference_held : (x y : Exponent) → cast_signed w8 (cast_unsigned w8 (cast_signed w8 (cast_unsigned w8 x.power) -ℤ cast_signed w8 (cast_unsigned w8 y.power))) ≡ x.power -ℤ y.power
difference_held x y = grind (arith, ints, nat_tests)

-- a power in the range is the nearest one
pub in_range_kept : (z : ℤ) → is_exponent z ≡ true → nearest_power z ≡ z
in_range_kept z e = grind (arith, ints, nat_tests)

pub not_below : (a b : ℤ) → int_lt a b ≡ false → int_le b a ≡ true
not_below a b e = grind (arith, ints, nat_tests)

pub nearest_tested : (z : ℤ) (below above : Bool) → int_lt z lowest ≡ below → int_lt highest z ≡ above → is_exponent (if below then lowest else (if above then highest else z)) ≡ true
nearest_tested z true above l h = grind (arith, ints, nat_tests)
nearest_tested z false true l h = grind (arith, ints, nat_tests)
nearest_tested z false false l h = grind (arith, ints, nat_tests)

-- ---- whole numbers

-- what fits 32 bits is a whole number
pub fits_whole : (z : ℤ) → FitsSigned w32 z → is_whole z ≡ true
fits_whole z fits = grind (arith, ints, nat_tests, fits.sfits)

-- what a checked operation found, as the code holds it
pub found_is : (n z : ℤ) → SomeIff (Some n) (FitsSigned w32 z) z → cast_signed w32 (cast_unsigned w32 n) ≡ z
found_is n z found = ap (λ k. cast_signed w32 (cast_unsigned w32 k)) found.1 ∙ to_z-of_z w32 z found.0

-- a part of the condition that is known
pub checked_rest : (P Q : Type 0) (o : Option ℤ) (z : ℤ) → P → SomeIff o (P × Q) z → SomeIff o Q z
checked_rest P Q None z p found = λ q. found (p, q)
checked_rest P Q (Some x) z p found = (found.0.1, found.1)

pub quotient_else : (l r : ℤ) → 0 < unsigned_abs r → exact (int_div l r) ≡ quotient l r
quotient_else l r some = grind (arith, ints, nat_tests)

-- a divisor whose bits are not all zero
pub divisor_some : (z : ℤ) → (cast_unsigned w32 z ≢ 0) → 0 < unsigned_abs z
divisor_some z apart = grind (arith, ints, nat_tests)
