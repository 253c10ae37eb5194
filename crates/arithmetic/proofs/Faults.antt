-- The constants that the code gives for a fault are the faults of the definitions. Assumes nothing.
use Rattle.std.proofs.Common.{◌≡◌, Option, ok_or, ap}
use Rattle.std.proofs.lemmas.Int.{ints, to_z-of_z}
use Rattle.std.proofs.lemmas.Bool.Decides.{nat_tests}
use Rattle.records.proofs.Faults.{same_fault}
use Rattle.records.specs.Faults.{divisor_zero}
use Rattle.records.specs.declared.fault.Fault.{Fault}

pub or_fault : {X : Type 0} (o : Option X) (f g : Fault) → f.number ≡ g.number → ok_or o f ≡ ok_or o g
or_fault o f g e = ap (ok_or o) (same_fault f g e)

pub or_divisor_zero : {X : Type 0} (o : Option X) (f : Fault) → f.number ≡ 2 → ok_or o f ≡ ok_or o divisor_zero
or_divisor_zero o f e = or_fault o f divisor_zero e

-- what a division takes
pub ruleset division = (or_divisor_zero, to_z-of_z, ints, nat_tests)
