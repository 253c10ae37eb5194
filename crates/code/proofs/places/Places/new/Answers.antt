use Rattle.records.proofs.Provided.{provided_some}
use Rattle.code.proofs.places.Places.new.Goals as goal

pub returns : goal.returns
returns c = provided_some _ _ _
