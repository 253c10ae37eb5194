-- A value that is there if a test passes: when it is there, and what it is then. Assumes nothing.
use Rattle.std.proofs.Common.{◌≡◌, Bool, true, false, Some, None, refl, ap}
use Rattle.std.proofs.Math.Bool.{Bool-set}
use Rattle.std.proofs.lemmas.Bool.{false≢true, true≢false}
use Rattle.records.specs.Provided.{provided}

pub provided_some : {X : Type 0} (b : Bool) (f : b ≡ true → X) (e : b ≡ true) → Some (f e) ≡ provided b f
provided_some true f e = ap (λ p. Some (f p)) (Bool-set true true e refl)
provided_some false f e = absurd (false≢true e)

pub provided_none : {X : Type 0} (b : Bool) (f : b ≡ true → X) → b ≡ false → None ≡ provided b f
provided_none true f e = absurd (true≢false e)
provided_none false f e = refl

-- what must have held where a value came out
pub provided_at : {X : Type 0} (b : Bool) (f : b ≡ true → X) (x : X) → provided b f ≡ Some x → (e : b ≡ true) × (f e ≡ x)
provided_at true f x e = (refl, cc)
provided_at false f x e = absurd (cc)
