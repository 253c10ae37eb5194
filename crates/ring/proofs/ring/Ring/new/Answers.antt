use Rattle.std.proofs.Common.{take, ap, ◌∙◌, arith}
use Rattle.ring.proofs.HeldPlaces.{held_new}
use Rattle.ring.proofs.ring.Ring.new.Goals as goal
use Rattle.std.proofs.lemmas.List.{take_all}

pub returns-clause-as_they_stand : goal.returns-clause-as_they_stand
returns-clause-as_they_stand c xs e =
    let made = c.unturned.ensures in
    held_new c.unturned.result xs made.front ∙ ap (λ n. take n xs) made.size ∙ take_all c.args.size xs (omega arith)
