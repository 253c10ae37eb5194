-- What `code_record` answers at a pair that is no byte, after a pair, and at the end.
use Rattle.std.proofs.Common.{◌∙◌, sym, arith, length-set}
use Rattle.bench_text.proofs.RecordBytes.{byte_at, one_more, no_byte, whole_record}
use Rattle.bench_text.proofs.hexes.code_record.Goals as goal

pub returns-in_err-bytes : goal.returns-in_err-bytes
returns-in_err-bytes c = c.from_residual.ensures ∙ no_byte c.args.line.now c.as_chunks.result.0.now c.if-line-ne-RECORD_DIGITS.false c.as_chunks.ensures.front c.loop-i.i (omega arith) c.in_err-bytes.ensures

pub loop-i-preserved : goal.loop-i-preserved
loop-i-preserved c = record {
  sixteen = length-set _ _ _ ∙ c.loop-i.invariant.sixteen;
  spelt = one_more (byte_at c.as_chunks.result.0.now) c.loop-i.bytes c.loop-i.i _ (omega arith) c.loop-i.invariant.spelt (sym c.in_ok-bytes.ensures);
}

pub returns : goal.returns
returns c = whole_record c.args.line.now c.as_chunks.result.0.now c.if-line-ne-RECORD_DIGITS.false c.as_chunks.ensures.front c.loop-i.bytes c.loop-i.invariant.sixteen (λ i below. c.loop-i.invariant.spelt i (omega arith))
