use Rattle.std.proofs.Common.{ap, ◌∙◌, to_z-of_z}
use Rattle.records.proofs.Provided.{provided_some}
use Rattle.code.specs.Layout.{record_of}
use Rattle.code.proofs.record.Record.new.Goals as goal

pub returns : goal.returns
returns c =
    provided_some _ _ _ ∙ ap (λ z. record_of c.args.operation c.args.node z c.args.target) (to_z-of_z c.ranges.argument)
