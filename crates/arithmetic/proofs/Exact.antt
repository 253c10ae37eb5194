-- Exact results as whole numbers: what is answered where there is one, and where there is none. Assumes nothing.
use Rattle.std.proofs.Common.{◌≡◌, true, ℤ, Some, None, Ok, Err, Option, MatchOption, IsSomeAnd, SomeIff, FitsSigned, ok_or, ap, sym, subst, ◌∙◌, arith, w32}
use Rattle.std.proofs.lemmas.Int.{ints}
use Rattle.std.proofs.lemmas.Bool.{false_from_ne_true}
use Rattle.std.proofs.lemmas.Bool.Decides.{nat_tests}
use Rattle.records.proofs.Provided.{provided_some, provided_none}
use Rattle.records.specs.Faults.{out_of_range}
use Rattle.arithmetic.specs.Ranges.{is_whole}
use Rattle.arithmetic.specs.WholeMeaning.{exact}
use Rattle.arithmetic.specs.declared.whole.Whole.{Whole}

-- a whole number fits 32 bits
pub whole_fits : (z : ℤ) → is_whole z ≡ true → FitsSigned w32 z
whole_fits z e = record { sfits = grind (arith, ints, nat_tests) }

pub exact_there : (x : Whole) (z : ℤ) → x.number ≡ z → Ok x ≡ exact z
exact_there x z e = ap (λ o. ok_or o out_of_range) (provided_some _ _ x.within) ∙ ap exact e

pub exact_missing : (z : ℤ) → ¬ (FitsSigned w32 z) → Err out_of_range ≡ exact z
exact_missing z missing =
    ap (λ o. ok_or o out_of_range) (provided_none (is_whole z) _ (false_from_ne_true _ (λ e. missing (whole_fits z e))))

-- what is made of the number that a checked operation found
pub exact_found :
    (found : Option ℤ) (made : Option Whole) (Made : ℤ → Whole → Type 0)
    → ((n : ℤ) (x : Whole) → FitsSigned w32 n → Made n x → x.number ≡ n)
    → (z : ℤ) → SomeIff found (FitsSigned w32 z) z
    → MatchOption found (made ≡ None) (λ n. IsSomeAnd made (Made n))
    → ok_or made out_of_range ≡ exact z
exact_found None made Made told z missing none = ap (λ o. ok_or o out_of_range) none ∙ exact_missing z missing
exact_found (Some n) None Made told z found made = absurd made
exact_found (Some n) (Some x) Made told z found made =
    exact_there x z (told n x (subst (FitsSigned w32) (sym found.1) found.0) made ∙ found.1)
