use Rattle.std.proofs.Common.{◌≡◌, ℕ, drop}
use Rattle.code.specs.Verdict.{puts}
use Rattle.code.proofs.marks.Marks.put_all.Given as goal

abbrev pub invariant-loop-place : goal.invariant-loop-place
invariant-loop-place l = (index : ℕ) → puts index (drop l.place-index l.places) l.self ≡ puts index l.places l.initial.self
