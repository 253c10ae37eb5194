-- What holds after a record.
use Rattle.std.proofs.Common.{◌≡◌, ℕ, ◌+◌, ◌*◌, List, ◌∷◌, length, sum_by, take, drop, Some, sym, ap, ◌∙◌, subst, arith, rules}
use Rattle.std.proofs.lemmas.List.{drop-drop}
use Rattle.bench_text.specs.declared.answers.BenchCounts.{BenchCounts}
use Rattle.bench_text.specs.Hex.{hex_record}
use Rattle.bench_text.specs.Reading.{records_from}
use Rattle.bench_text.proofs.RecordLines.{record_step}
use Rattle.bench_text.proofs.texts.read_records.Goals as goal

pub loop-line-preserved : goal.loop-line-preserved
loop-line-preserved c =
    let n = c.loop-line.counts.records in
    let new = c.loop-line.code in
    let bytes = c.in_ok-bytes.bytes in
    let later = c.next.new.self in
    let split : c.loop-line.line-iterator ≡ c.in-Some.line.now ∷ later = c.in-Some.ensures.steps in
    let spelt : hex_record c.in-Some.line.now ≡ Some bytes = search rules in
    let step = record_step c.args.header n (take (16 * n) new) c.in-Some.line.now later bytes spelt in
    let next : 16 * n + 16 ≡ 16 * (n + 1) = omega arith in
    record {
      read = ap (λ (x : List ℕ). records_from c.args.header (n + 1) x later) c.write_record.ensures.front ∙ sym step.0 ∙ sym (ap (records_from c.args.header n (take (16 * n) new)) split) ∙ c.loop-line.invariant.read;
      kept = c.write_record.ensures.back ∙ subst (λ (k : ℕ). drop k new ≡ drop k c.args.code.now) next (sym (drop-drop 16 (16 * n) new) ∙ ap (drop 16) c.loop-line.invariant.kept ∙ drop-drop 16 (16 * n) c.args.code.now);
      room = omega (arith, step.2, ap (sum_by length) split);
      counted = ap (λ (x : BenchCounts). record { places = x.places; results = x.results; records = n + 1 }) c.loop-line.invariant.counted;
    }
