-- Which places of a queue are full, the front place first. Assumes nothing.
use Rattle.std.specs.Prelude.{◌≡◌, ℕ, zero, suc, ◌≤◌, Bool, false, ◌&&◌, List, count_by, ◌==◌, slice_index_or}
use Rattle.std.specs.List.{list_all, range_with_len}
use Rattle.ring.specs.Views.{shifted}

-- how many places are full
abbrev pub full_count : List Bool → ℕ
full_count ms = count_by (λ m. m) ms

-- place 0 is dropped, the others move one nearer, an empty one comes at the rear
abbrev pub pass : List Bool → List Bool
pass ms = shifted false ms

-- n passes
abbrev pub passes : ℕ → List Bool → List Bool
passes zero ms = ms
passes (suc n) ms = pass (passes n ms)

-- the first n places are there and full
abbrev pub front_full : ℕ → List Bool → Bool
front_full n ms = list_all (λ k. slice_index_or ms k false) (range_with_len 0 n)

-- the first n places are full, and no others
abbrev pub just_front : ℕ → List Bool → Bool
just_front n ms = front_full n ms && full_count ms == n

-- a ring has at most 4,096 places, and the number of the full ones is kept beside it
pub record IsCounted (size full : ℕ) (places : List Bool) : Type 0 where
  pub few : size ≤ 4096
  pub counted : full ≡ full_count places
