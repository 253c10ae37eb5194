-- The lines that are left take the code so far to all of it. A line of 32 digits gives 16 bytes, so there is room for them.
use Rattle.std.proofs.Common.{◌≡◌, ◌+◌, ◌*◌, ◌≤◌, [], length, sum_by, take, drop}
use Rattle.bench_text.specs.Reading.{counts_of, records_from}
use Rattle.bench_text.proofs.texts.read_records.Given as goal

abbrev pub invariant-loop-line : goal.invariant-loop-line
invariant-loop-line l = record {
  read : records_from l.fn.header l.counts.records (take (16 * l.counts.records) l.code) l.line-iterator ≡ records_from l.fn.header 0 [] l.fn.record_lines;
  kept : drop (16 * l.counts.records) l.code ≡ drop (16 * l.counts.records) l.initial.code;
  room : 32 * l.counts.records + sum_by length l.line-iterator ≤ sum_by length l.fn.record_lines;
  counted : l.counts ≡ counts_of l.fn.header l.counts.records;
}
