-- Exponents by their powers, and a dimension packed and unpacked. Assumes nothing.
use Rattle.std.specs.Prelude.{◌≡◌, ◌+◌, ◌*◌, ◌/◌, ◌%◌, ℤ}
use Rattle.std.proofs.Common.{arith}
use Rattle.std.specs.Int.{w8, cast_signed, cast_unsigned}
use Rattle.arithmetic.specs.DimensionMeaning.{dimension_word, nearest, word_dimension}
use Rattle.arithmetic.specs.Ranges.{is_exponent, same_made}
use Rattle.arithmetic.specs.declared.dimension.Dimension.{Dimension}
use Rattle.arithmetic.specs.declared.exponent.Exponent.{Exponent}
use Rattle.std.proofs.lemmas.Int.{ints}
use Rattle.std.proofs.lemmas.Bool.Decides.{nat_tests}

pub same_exponent : (x y : Exponent) → x.power ≡ y.power → x ≡ y
same_exponent x y = same_made is_exponent (λ z within. record { power = z; within = within }) x.power y.power x.within y.within

nearest_kept : (x : Exponent) (z : ℤ) → z ≡ x.power → nearest z ≡ x
nearest_kept x z e = same_exponent _ x (grind (arith, ints, nat_tests))

byte_0 : (x y : Exponent) → cast_signed w8 ((cast_unsigned w8 x.power + 256 * cast_unsigned w8 y.power) % 256) ≡ x.power
byte_0 x y = grind (arith, ints, nat_tests)

byte_1 : (x y : Exponent) → cast_signed w8 ((cast_unsigned w8 x.power + 256 * cast_unsigned w8 y.power) / 256 % 256) ≡ y.power
byte_1 x y = grind (arith, ints, nat_tests)

pub reads_back : (d : Dimension) → word_dimension (dimension_word d) ≡ d
reads_back d =
    λ i. record {
      seconds = nearest_kept d.seconds _ (byte_0 d.seconds d.volts) i;
      volts = nearest_kept d.volts _ (byte_1 d.seconds d.volts) i;
    }
