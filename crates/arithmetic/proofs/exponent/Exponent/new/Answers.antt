use Rattle.std.proofs.Common.{ap, ◌∙◌, to_z-of_z}
use Rattle.records.proofs.Provided.{provided_some}
use Rattle.arithmetic.specs.DimensionMeaning.{exponent_of}
use Rattle.arithmetic.proofs.exponent.Exponent.new.Goals as goal

pub returns : goal.returns
returns c = provided_some _ _ _ ∙ ap exponent_of (to_z-of_z c.ranges.power)
