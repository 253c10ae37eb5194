-- The arithmetic of whole numbers, in integers. Assumes nothing.
use Rattle.std.proofs.Common.{arith}
use Rattle.std.proofs.lemmas.Int.{ints}
use Rattle.std.proofs.lemmas.Bool.Decides.{nat_tests}
use Rattle.std.specs.Prelude.{◌≡◌, ℕ, ◌%◌, ◌^◌, true, if◌then◌else◌, ℤ, ◌+ℤ◌, ◌-ℤ◌, ◌*ℤ◌, neg_ℤ, Err, Option, Result, ◌==◌, int_div, unsigned_abs}
use Rattle.std.specs.Int.{w32, cast_signed, cast_unsigned}
use Rattle.arithmetic.specs.Meaning.{Meaning}
use Rattle.arithmetic.specs.Ranges.{is_whole}
use Rattle.arithmetic.specs.declared.whole.Whole.{Whole}
use Rattle.records.specs.Faults.{divisor_zero, out_of_range}
use Rattle.records.specs.Provided.{provided}
use Rattle.records.specs.declared.fault.Fault.{Fault}
use Rattle.std.specs.Option.{ok_or}

abbrev pub number_of : Whole → ℤ
number_of whole = whole.number

-- the whole number of this value, if there is one
abbrev pub whole_of : ℤ → Option Whole
whole_of z = provided (is_whole z) (λ e. record { number = z; within = e })

-- the exact result as a whole number, and the fault where it is out of range
abbrev pub exact : ℤ → Result Whole Fault
exact z = ok_or (whole_of z) out_of_range

-- rounded toward zero
abbrev pub quotient : ℤ → ℤ → Result Whole Fault
quotient l r = if unsigned_abs r == 0 then Err divisor_zero else exact (int_div l r)

-- the low 32 bits of a word in two's complement, whatever the others are
abbrev pub low_number : ℕ → ℤ
low_number word = cast_signed w32 (word % 2 ^ 32)

pub low_within : (word : ℕ) → is_whole (low_number word) ≡ true
low_within word = grind (arith, ints, nat_tests)

abbrev pub low_whole : ℕ → Whole
low_whole word = record { number = low_number word; within = low_within word }

abbrev pub whole_meaning : Meaning Whole
whole_meaning =
    record {
      pack = λ v. cast_unsigned w32 v.number;
      unpack = low_whole;
      literal = exact;
      negate = λ v. exact (neg_ℤ v.number);
      add = λ l r. exact (l.number +ℤ r.number);
      subtract = λ l r. exact (l.number -ℤ r.number);
      multiply = λ l r. exact (l.number *ℤ r.number);
      divide = λ l r. quotient l.number r.number;
    }
