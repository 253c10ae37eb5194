-- The faults that an arithmetic of this product answers, by their numbers. Assumes nothing.
use Rattle.std.proofs.Common.{lit≤}
use Rattle.std.specs.Prelude.{ℕ}
use Rattle.records.specs.declared.fault.Fault.{Fault}

abbrev pub number_of : Fault → ℕ
number_of fault = fault.number

-- a result outside the range
abbrev pub out_of_range : Fault
out_of_range = record { number = 1; from_one = lit≤ tt; to_255 = lit≤ tt }

abbrev pub divisor_zero : Fault
divisor_zero = record { number = 2; from_one = lit≤ tt; to_255 = lit≤ tt }

abbrev pub different_dimensions : Fault
different_dimensions = record { number = 3; from_one = lit≤ tt; to_255 = lit≤ tt }
