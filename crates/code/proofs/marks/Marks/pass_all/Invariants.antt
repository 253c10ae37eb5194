use Rattle.std.proofs.Common.{◌≡◌}
use Rattle.code.specs.Marks.{passes}
use Rattle.code.proofs.marks.Marks.pass_all.Given as goal

abbrev pub invariant-loop : goal.invariant-loop
invariant-loop l = l.self ≡ passes l.counter l.initial.self
