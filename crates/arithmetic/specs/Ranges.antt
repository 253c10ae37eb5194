-- The ranges of the values. Assumes nothing.
use Rattle.std.specs.Prelude.{◌≡◌, Bool, true, ◌&&◌, ℤ, pos, negsuc, int_le}
use Rattle.std.proofs.Common.{subst}
use Rattle.std.proofs.Math.Bool.{Bool-set}

-- from the lowest to the highest, both included
abbrev pub between : ℤ → ℤ → ℤ → Bool
between lowest highest z = int_le lowest z && int_le z highest

-- a whole number: -2,147,483,648 to 2,147,483,647
abbrev pub is_whole : ℤ → Bool
is_whole z = between (negsuc 2147483647) (pos 2147483647) z

-- the lowest exponent, -64, and the highest
abbrev pub lowest : ℤ
lowest = negsuc 63

abbrev pub highest : ℤ
highest = pos 63

abbrev pub is_exponent : ℤ → Bool
is_exponent z = between lowest highest z

-- a value that is made of a number in its range is told by the number
pub same_made : {X : Type 0} (test : ℤ → Bool) (make : (z : ℤ) → test z ≡ true → X) (m n : ℤ) (p : test m ≡ true) (q : test n ≡ true) → m ≡ n → make m p ≡ make n q
same_made test make m n p q e =
    subst (λ (z : ℤ). (within : test z ≡ true) → make m p ≡ make z within) e (λ within i. make m (Bool-set _ _ p within i)) q
