use Rattle.std.proofs.Common.{◌≡◌, Bool, true, false, refl, ap, ◌∙◌, sym}
use Rattle.records.specs.Provided.{provided}
use Rattle.std.specs.Bool.{then_some}
use Rattle.std.proofs.lemmas.Bool.{cond-true, eq-eqb}
use Rattle.code.specs.declared.target.Target.TheVariants.{Rear}
use Rattle.code.proofs.target.Target.new.Goals as goal

-- a value that hangs on the test alone
plain : {X : Type 0} (b : Bool) (x : X) → then_some b x ≡ provided b (λ _. x)
plain true x = refl
plain false x = refl

pub returns-then-count-eq-REAR : goal.returns-then-count-eq-REAR
returns-then-count-eq-REAR c =
    c.then_some.ensures ∙ ap (λ b. then_some b Rear) c.all_zero.ensures ∙ plain _ Rear ∙ sym (cond-true _ _ _ (eq-eqb c.args.count 255 c.if-count-eq-REAR.true))
