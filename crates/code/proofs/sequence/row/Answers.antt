use Rattle.code.proofs.Chunks.{row_found}
use Rattle.code.proofs.sequence.row.Goals as goal

pub returns : goal.returns
returns c =
    let chunks = c.as_chunks.ensures in
    row_found c.args.code.now c.args.index _ chunks.front chunks.front_len c.get.result c.get.ensures.lookup.3
