-- The bytes so far are what the pairs so far spell.
use Rattle.std.proofs.Common.{◌≡◌, ℕ, ◌<◌, length, get_or, Some}
use Rattle.bench_text.proofs.RecordBytes.{byte_at}
use Rattle.bench_text.proofs.hexes.code_record.Given as goal

abbrev pub invariant-loop-i : goal.invariant-loop-i
invariant-loop-i l = record {
  sixteen : length l.bytes ≡ 16;
  spelt : (k : ℕ) → k < l.i → byte_at l.pairs k ≡ Some (get_or l.bytes k 0);
}
