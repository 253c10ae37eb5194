use Rattle.std.proofs.Common.{◌≡◌, [], ◌∷◌, set, subst, arith, true}
use Rattle.ring.specs.Held.{held}
use Rattle.records.specs.Refusals.{granted}
use Rattle.code.specs.Verdict.{puts}
use Rattle.code.proofs.MarkRings.{put_granted, put_counted}
use Rattle.code.proofs.marks.Marks.put.Goals as goal

pub invariant_of-self : goal.invariant_of-self
invariant_of-self c =
    put_counted c.self.inside c.self.invariant c.self.told c.args.k c.in_ok-slot.slot (grind (arith, c.slot.ensures.value, c.ok_or.ensures.value, c.branch-slot.ensures, c.in_ok-slot.is)) c.if-self-slot.false

pub returns : goal.returns
returns c index =
    let m = c.self.inside in
    subst (λ ms. granted (held m.ring (set m.slots c.in_ok-slot.slot true)) ≡ puts index (c.args.k ∷ []) ms) c.self.view_is
    (put_granted m c.self.invariant c.self.told c.args.k c.in_ok-slot.slot (grind (arith, c.slot.ensures.value, c.ok_or.ensures.value, c.branch-slot.ensures, c.in_ok-slot.is)) c.if-self-slot.false index)
