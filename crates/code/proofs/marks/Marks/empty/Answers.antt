use Rattle.std.proofs.Common.{◌≤◌, false, replicate, ap, ◌∙◌, arith}
use Rattle.std.proofs.lemmas.List.{take-replicate}
use Rattle.ring.proofs.HeldPlaces.{held_new}
use Rattle.code.proofs.marks.Marks.empty.Goals as goal

pub returns : goal.returns
returns c =
    let made = c.new.ensures in
    let few : c.new.result.size ≤ 4096 = omega (arith, made.size, c.at_most_all.ensures) in
    held_new c.new.result (replicate 4096 false) made.front ∙ take-replicate c.new.result.size 4096 false few
    ∙ ap (λ n. replicate n false) (made.size ∙ c.at_most_all.ensures)
