use Rattle.std.proofs.Common.{refl, ◌∙◌, arith}
use Rattle.std.proofs.lemmas.Int.{ints, to_z-of_z}
use Rattle.std.proofs.lemmas.Bool.Decides.{nat_tests}
use Rattle.records.specs.Faults.{out_of_range}
use Rattle.arithmetic.proofs.Faults.{or_fault}
use Rattle.arithmetic.proofs.exponent.Exponent.minus.Goals as goal

pub returns : goal.returns
returns c = c.ok_or.ensures.value ∙ (or_fault _ _ out_of_range refl ∙ grind (arith, ints, nat_tests, to_z-of_z))
