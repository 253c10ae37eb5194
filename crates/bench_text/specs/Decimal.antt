-- How decimal numbers are read.
use Rattle.std.specs.Prelude.{ℕ, ◌+◌, ◌-◌, ◌*◌, ◌^◌, ◌&&◌, if◌then◌else◌, List, [], ◌∷◌, Some, None, Option, nat_le, nat_lt}
use Rattle.bench_text.specs.Steps.{◌>>=◌}

-- what n becomes with one more digit, while it stays below 2 ^ 64
abbrev pub decimal_more : ℕ → ℕ → Option ℕ
decimal_more n b =
    if nat_le 48 b && nat_le b 57 && nat_lt (n * 10 + (b - 48)) (2 ^ 64) then Some (n * 10 + (b - 48)) else None

-- what n becomes with all of these digits
abbrev pub decimal_from : ℕ → List ℕ → Option ℕ
decimal_from n [] = Some n
decimal_from n (b ∷ bs) = do
  m ← decimal_more n b
  decimal_from m bs

-- one digit or more
abbrev pub decimal_number : List ℕ → Option ℕ
decimal_number [] = None
decimal_number (b ∷ bs) = decimal_from 0 (b ∷ bs)
