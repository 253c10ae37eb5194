use Rattle.std.proofs.Common.{◌∙◌, to_z-of_z}
use Rattle.arithmetic.proofs.Exact.{exact_there}
use Rattle.arithmetic.proofs.whole_numbers.WholeNumbersArithmetic.literal.Goals as goal

pub returns : goal.returns
returns c = exact_there _ _ (c.from.ensures ∙ to_z-of_z c.ranges.argument)
