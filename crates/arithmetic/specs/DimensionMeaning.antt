-- The arithmetic of dimensions. Assumes nothing.
use Rattle.std.proofs.Common.{arith}
use Rattle.std.proofs.lemmas.Int.{ints}
use Rattle.std.proofs.lemmas.Bool.Decides.{nat_tests}
use Rattle.std.specs.Prelude.{◌≡◌, ℕ, ◌+◌, ◌*◌, ◌/◌, ◌%◌, Bool, true, if◌then◌else◌, ◌&&◌, ℤ, pos, ◌+ℤ◌, ◌-ℤ◌, Some, None, Ok, Err, Option, Result, int_lt, refl}
use Rattle.std.specs.Option.{ok_or}
use Rattle.std.specs.Ordering.{int_eq}
use Rattle.std.specs.Int.{w8, cast_signed, cast_unsigned}
use Rattle.arithmetic.specs.Meaning.{Meaning}
use Rattle.arithmetic.specs.Ranges.{highest, is_exponent, lowest}
use Rattle.arithmetic.specs.declared.dimension.Dimension.{Dimension}
use Rattle.arithmetic.specs.declared.exponent.Exponent.{Exponent}
use Rattle.records.specs.Faults.{different_dimensions, out_of_range}
use Rattle.records.specs.Provided.{provided}
use Rattle.records.specs.declared.fault.Fault.{Fault}

abbrev pub power_of : Exponent → ℤ
power_of exponent = exponent.power

-- the exponent of this value, if there is one
abbrev pub exponent_of : ℤ → Option Exponent
exponent_of z = provided (is_exponent z) (λ e. record { power = z; within = e })

-- the same, and the fault where it is out of range
abbrev pub exact_exponent : ℤ → Result Exponent Fault
exact_exponent z = ok_or (exponent_of z) out_of_range

-- below the range the lowest, above it the highest
abbrev pub nearest_power : ℤ → ℤ
nearest_power z = if int_lt z lowest then lowest else (if int_lt highest z then highest else z)

pub nearest_within : (z : ℤ) → is_exponent (nearest_power z) ≡ true
nearest_within z = grind (arith, ints, nat_tests)

abbrev pub nearest : ℤ → Exponent
nearest z = record { power = nearest_power z; within = nearest_within z }

-- two exponents that are both there make a dimension
abbrev pub dimension_of : Option Exponent → Option Exponent → Result Dimension Fault
dimension_of None v = Err out_of_range
dimension_of (Some s) None = Err out_of_range
dimension_of (Some s) (Some v) = Ok record { seconds = s; volts = v }

abbrev pub same_dimension : Dimension → Dimension → Bool
same_dimension l r = int_eq l.seconds.power r.seconds.power && int_eq l.volts.power r.volts.power

-- the dimension of both operands, where they have the same
abbrev pub common_dimension : Dimension → Dimension → Result Dimension Fault
common_dimension l r = if same_dimension l r then Ok l else Err different_dimensions

abbrev pub zero_exponent : Exponent
zero_exponent = record { power = pos 0; within = refl }

-- byte 0 is the exponent of seconds, byte 1 that of volts
abbrev pub dimension_word : Dimension → ℕ
dimension_word d = cast_unsigned w8 d.seconds.power + 256 * cast_unsigned w8 d.volts.power

-- the other bytes are not read
abbrev pub word_dimension : ℕ → Dimension
word_dimension word =
    record { seconds = nearest (cast_signed w8 (word % 256)); volts = nearest (cast_signed w8 (word / 256 % 256)) }

abbrev pub dimension_meaning : Meaning Dimension
dimension_meaning =
    record {
      pack = dimension_word;
      unpack = word_dimension;
      literal = λ _. Ok record { seconds = zero_exponent; volts = zero_exponent };
      negate = λ d. Ok d;
      add = common_dimension;
      subtract = common_dimension;
      multiply = λ l r. dimension_of (exponent_of (l.seconds.power +ℤ r.seconds.power)) (exponent_of (l.volts.power +ℤ r.volts.power));
      divide = λ l r. dimension_of (exponent_of (l.seconds.power -ℤ r.seconds.power)) (exponent_of (l.volts.power -ℤ r.volts.power));
    }
