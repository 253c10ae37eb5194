-- A list of slots seen from a front: which slot is which place. Assumes nothing.
use Rattle.std.specs.Prelude.{ℕ, ◌+◌, ◌-◌, if◌then◌else◌, List, [], ◌∷◌, ◌++◌, take, drop, Some, None, Option, nat_lt}

-- the places are the slots from `front` on, and then those before it
abbrev pub ring_view : {X : Type 0} → ℕ → List X → List X
ring_view front slots = drop front slots ++ take front slots

-- place 0 is dropped, the others move one nearer, v comes at the rear; nothing without places
abbrev pub shifted : {X : Type 0} → X → List X → List X
shifted v [] = []
shifted v (x ∷ xs) = xs ++ v ∷ []

-- the slot of place k in a ring of that size: from the front on, and past the last slot from slot 0 on
abbrev pub slot_of : (front size k : ℕ) → Option ℕ
slot_of front size k =
    if nat_lt k size then Some (if nat_lt k (size - front) then front + k else k - (size - front)) else None

-- the front once place 0 is dropped
abbrev pub next_front : (front size : ℕ) → ℕ
next_front front size = if nat_lt 1 (size - front) then front + 1 else 0
