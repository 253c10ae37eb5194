-- What must have held where a value came out. Assumes nothing.
use Rattle.std.proofs.Common.{◌≡◌, Bool, true, false, cond, Some, None, Option, refl}
use Rattle.std.specs.Option.{option_map}

pub mapped_at : {X Y : Type 0} (f : X → Y) (o : Option X) (y : Y) → option_map f o ≡ Some y → (x : X) × (o ≡ Some x) × (f x ≡ y)
mapped_at f None y e = absurd (cc)
mapped_at f (Some x) y e = (x, refl, cc)

pub cond_at : {X : Type 0} (b : Bool) (o : Option X) (x : X) → cond b o None ≡ Some x → (b ≡ true) × (o ≡ Some x)
cond_at true o x e = (refl, e)
cond_at false o x e = absurd (cc)
