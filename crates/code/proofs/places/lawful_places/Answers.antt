use Rattle.std.proofs.Common.{◌≡◌, true, ◌∙◌, ap, arith, sym, take}
use Rattle.code.proofs.Fields.{lawful_by_zeros}
use Rattle.code.specs.Lawful.{all_zero, ascending}
use Rattle.code.proofs.places.lawful_places.Goals as goal

pub returns-then-ascends : goal.returns-then-ascends
returns-then-ascends c =
    let fields = c.args.fields.now in
    let parts = rw c.from.ensures at c.in-Some.ensures.cases in
    let up : ascending (take c.args.count fields) ≡ true = ap ascending (sym parts.1) ∙ sym c.if-ascends.ensures in
    c.all_zero.ensures ∙ ap all_zero parts.2 ∙ lawful_by_zeros c.args.count fields c.told-fields c.fits-fields (omega (arith, parts.0, c.told-fields)) up
