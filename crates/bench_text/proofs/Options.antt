-- The two cases of an option.
use Rattle.std.proofs.Common.{◌≡◌, ◌⊎◌, Some, None, Option, refl, inl, inr}

pub cases_option : {X : Type 0} (o : Option X) → (o ≡ None) ⊎ ((x : X) × (o ≡ Some x))
cases_option None = inl refl
cases_option (Some x) = inr (x, refl)
