use Rattle.std.proofs.Common.{◌≡◌, min}
use Rattle.code.specs.Verdict.{marks_after}
use Rattle.records.specs.Refusals.{granted}
use Rattle.code.proofs.checker.check.Given as goal

abbrev pub invariant-loop-index : goal.invariant-loop-index
invariant-loop-index l = marks_after l.code (min l.places 4096) l.index ≡ granted l.marks
