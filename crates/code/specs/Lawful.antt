-- What a code record may hold. Assumes nothing.
use Rattle.std.specs.Prelude.{ℕ, Bool, true, ◌&&◌, List, [], ◌∷◌, length, take, drop, ℤ, pos, negsuc, ◌==◌, int_le, nat_le, nat_lt}
use Rattle.std.specs.List.{list_all}
use Rattle.records.specs.declared.operation.Operation.{Operation}
use Rattle.records.specs.declared.operation.Operation.TheVariants.{Input, Literal}

-- each element is below the next
abbrev pub ascending : List ℕ → Bool
ascending [] = true
ascending (x ∷ []) = true
ascending (x ∷ y ∷ ys) = nat_lt x y && ascending (y ∷ ys)

abbrev pub all_zero : List ℕ → Bool
all_zero xs = list_all (λ x. x == 0) xs

abbrev pub all_below : ℕ → List ℕ → Bool
all_below n xs = list_all (λ x. nat_lt x n) xs

-- four 16-bit place fields, of which the first `count` are in use: those ascend strictly, the others are zero
abbrev pub places_lawful : ℕ → List ℕ → Bool
places_lawful count fields =
    (length fields == 4) && (all_below 65536 fields && (nat_le count 4 && (ascending (take count fields) && all_zero (drop count fields))))

-- the lowest and the highest argument of an operation: an input's number, a literal's value, else zero
abbrev pub argument_range : Operation → ℤ × ℤ
argument_range Input = (pos 0, pos 63)
argument_range Literal = (negsuc 2147483647, pos 2147483647)
argument_range o = (pos 0, pos 0)

-- an argument within that range
abbrev pub argument_lawful : Operation → ℤ → Bool
argument_lawful o z = int_le (argument_range o).0 z && int_le z (argument_range o).1

-- an operation, a 16-bit node and an argument that go together
abbrev pub record_lawful : Operation → ℕ → ℤ → Bool
record_lawful o node z = nat_lt node 65536 && argument_lawful o z
