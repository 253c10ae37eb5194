-- How code records are read.
use Rattle.std.specs.Prelude.{ℕ, ◌+◌, ◌-◌, ◌*◌, ◌&&◌, if◌then◌else◌, List, [], ◌∷◌, length, Some, None, Option, ◌==◌, nat_le}
use Rattle.bench_text.specs.Steps.{◌>>=◌}

-- the value of a digit, 0 to 9 or a to f
abbrev pub hex_digit : ℕ → Option ℕ
hex_digit b =
    if nat_le 48 b && nat_le b 57 then Some (b - 48)
    else (if nat_le 97 b && nat_le b 102 then Some (b - 97 + 10) else None)

-- the high half first
abbrev pub hex_byte : ℕ → ℕ → Option ℕ
hex_byte first second = do
  high ← hex_digit first
  low ← hex_digit second
  Some (high * 16 + low)

-- two digits to a byte
abbrev pub hex_bytes : List ℕ → Option (List ℕ)
hex_bytes [] = Some []
hex_bytes (h ∷ []) = None
hex_bytes (h ∷ l ∷ bs) = do
  b ← hex_byte h l
  more ← hex_bytes bs
  Some (b ∷ more)

-- 32 digits
abbrev pub hex_record : List ℕ → Option (List ℕ)
hex_record line = if length line == 32 then hex_bytes line else None
