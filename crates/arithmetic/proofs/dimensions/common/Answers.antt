use Rattle.std.proofs.Common.{Err, refl, ap, ◌∙◌, arith}
use Rattle.records.proofs.Faults.{same_fault}
use Rattle.records.specs.Faults.{different_dimensions}
use Rattle.arithmetic.proofs.dimensions.common.Goals as goal

pub returns-else-eq : goal.returns-else-eq
returns-else-eq c = ap Err (same_fault _ different_dimensions refl) ∙ grind arith
