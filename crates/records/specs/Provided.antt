-- A value that is there if a test passes. Assumes nothing.
use Rattle.std.specs.Prelude.{◌≡◌, Bool, true, false, Some, None, Option, refl}

-- what f makes of a test that passed
abbrev pub provided : {X : Type 0} (b : Bool) → (b ≡ true → X) → Option X
provided true f = Some (f refl)
provided false f = None
