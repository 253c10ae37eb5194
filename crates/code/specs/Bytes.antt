-- Little-endian fields: what stands in a byte list, and the bytes of a number. Assumes nothing.
use Rattle.std.specs.Prelude.{ℕ, ◌+◌, List, [], ◌∷◌, ℤ, slice_index}
use Rattle.std.specs.Int.{cast_signed, cast_unsigned, from_le_bytes, to_le_bytes, w16, w32}

-- the byte at i, 0 past the end
abbrev pub byte_at : List ℕ → ℕ → ℕ
byte_at bs i = slice_index bs i

-- two bytes, the low one first
abbrev pub u16_at : List ℕ → ℕ → ℕ
u16_at bs i = from_le_bytes w16 (byte_at bs i ∷ byte_at bs (i + 1) ∷ [])

-- four bytes, read as a signed number in two's complement
abbrev pub i32_at : List ℕ → ℕ → ℤ
i32_at bs i = cast_signed w32 (from_le_bytes w32 (byte_at bs i ∷ byte_at bs (i + 1) ∷ byte_at bs (i + 2) ∷ byte_at bs (i + 3) ∷ []))

-- the two bytes of a 16-bit number
abbrev pub u16_bytes : ℕ → List ℕ
u16_bytes n = to_le_bytes w16 n

-- the four bytes of a signed 32-bit number
abbrev pub i32_bytes : ℤ → List ℕ
i32_bytes z = to_le_bytes w32 (cast_unsigned w32 z)
