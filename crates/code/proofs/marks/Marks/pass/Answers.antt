use Rattle.std.proofs.Common.{ap, arith, sym, ◌∙◌}
use Rattle.code.specs.Marks.{pass}
use Rattle.code.proofs.MarkRings.{first_counted, pass_counted, passes_place_0}
use Rattle.code.proofs.marks.Marks.pass.Goals as goal

pub overflow_sub-self : goal.overflow_sub-self
overflow_sub-self c =
    let counted = first_counted c.self.inside c.self.invariant c.self.told c.in-Some.front (sym c.slot.ensures.value ∙ c.in-Some.is) in
    omega (arith, counted, c.from.ensures)

pub invariant_of-self : goal.invariant_of-self
invariant_of-self c =
    pass_counted c.self.inside c.self.invariant c.self.told c.in-Some.front (sym c.slot.ensures.value ∙ c.in-Some.is) c.turn.new.self c.turn.ensures.size c.turn.ensures.front c.from.result c.from.ensures

pub returns-in-Some : goal.returns-in-Some
returns-in-Some c =
    passes_place_0 c.self.inside c.self.invariant c.self.told c.in-Some.front (sym c.slot.ensures.value ∙ c.in-Some.is) c.turn.new.self c.turn.ensures.size c.turn.ensures.front
    ∙ ap pass c.self.view_is
