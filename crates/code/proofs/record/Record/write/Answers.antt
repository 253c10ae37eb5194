use Rattle.std.proofs.Common.{ap, ◌∙◌}
use Rattle.code.proofs.RoundTrip.{reads_back}
use Rattle.code.specs.Layout.{decode}
use Rattle.code.proofs.record.Record.write.Goals as goal

pub returns-clause-reads_back : goal.returns-clause-reads_back
returns-clause-reads_back c = ap decode c.to_fields.ensures ∙ reads_back c.args.self.now
