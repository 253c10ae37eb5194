-- The digits that are left take the value so far to the number.
use Rattle.std.proofs.Common.{◌≡◌, drop}
use Rattle.bench_text.specs.Decimal.{decimal_number, decimal_from}
use Rattle.bench_text.proofs.decimals.number.Given as goal

abbrev pub invariant-loop-byte : goal.invariant-loop-byte
invariant-loop-byte l = decimal_from l.value (drop l.byte-index l.digits) ≡ decimal_number l.digits
