-- How many places are full after a put and after a pass. Assumes nothing.
use Rattle.std.proofs.Common.{◌≡◌, ℕ, ◌+◌, ◌<◌, Bool, true, false, cond, List, [], ◌∷◌, ◌++◌, length, get_or, set, refl, ap, arith}
use Rattle.std.proofs.lemmas.List.Sums.{sum_by-append, sum_by-cons, sum_by-set}
use Rattle.std.specs.Int.{from_bool}
use Rattle.code.specs.Marks.{full_count, pass}

-- what a mark counts
abbrev one : Bool → ℕ
one m = cond m 1 0

pub count_put : (ms : List Bool) (k : ℕ) → k < length ms → get_or ms k false ≡ false → full_count (set ms k true) ≡ full_count ms + 1
count_put ms k within empty = let none : one (get_or ms k false) ≡ 0 = ap one empty in omega (arith, sum_by-set one ms k true false within)

pub full_count-append : (xs ys : List Bool) → full_count (xs ++ ys) ≡ full_count xs + full_count ys
full_count-append xs ys = sum_by-append one xs ys

pub full_count-pass : (ms : List Bool) → full_count (pass ms) + cond (get_or ms 0 false) 1 0 ≡ full_count ms
full_count-pass [] = refl
full_count-pass (m ∷ ms) = omega (arith, full_count-append ms (false ∷ []), sum_by-cons one m ms)

-- a mark as a number, as the code takes it
pub from_bool-is : (m : Bool) → from_bool m ≡ cond m 1 0
from_bool-is true = refl
from_bool-is false = refl
