use Rattle.code.proofs.RoundTrip.{reading_law}
use Rattle.code.proofs.record.Record.read.Goals as goal

pub returns-clause-the_record_of_that_layout : goal.returns-clause-the_record_of_that_layout
returns-clause-the_record_of_that_layout c = reading_law c.args.bytes.now (λ i. (c.type_inv.bytes i).fits) c.from_fields.result c.from_fields.ensures
