-- A ring seen from its front: its length, and a turn. Assumes nothing.
use Rattle.std.proofs.Common.{◌≡◌, ℕ, ◌+◌, ◌-◌, ◌<◌, ◌≤◌, List, [], ◌∷◌, ◌++◌, length, take, drop, set, sym, ap, ◌∙◌, append_assoc, append-nil, arith, length-append, length-drop}
use Rattle.ring.specs.Views.{ring_view, shifted}
use Rattle.std.proofs.lemmas.List.{drop_all, drop_more, drop-set-lt, take_all, take_more_set, length-take-le}

module _ {X : Type 0} (f : ℕ) (xs : List X) (within : f ≤ length xs) where
  long : length (drop f xs) ≡ length xs - f
  long = length-drop f xs

  pub view_length : length (ring_view f xs) ≡ length xs
  view_length = length-append (drop f xs) (take f xs) ∙ omega (arith, long, length-take-le f xs within)

-- the front slot is written and the front moves on
pub view_turn : {X : Type 0} (f : ℕ) (xs : List X) (v : X) → f < length xs → ring_view (f + 1) (set xs f v) ≡ shifted v (ring_view f xs)
view_turn f xs v h =
    (λ i. drop-set-lt (f + 1) xs f v (omega arith) i ++ take_more_set xs f v h i)
    ∙ sym (append_assoc (drop (f + 1) xs) (take f xs) (v ∷ []))
    ∙ ap (λ l. shifted v (l ++ take f xs)) (sym (drop_more xs f v h))

-- a front past the last slot is a front at slot 0
pub view_over : {X : Type 0} (f : ℕ) (xs : List X) → f ≡ length xs → ring_view 0 xs ≡ ring_view f xs
view_over f xs e =
    append-nil xs ∙ (λ i. sym (drop_all f xs (omega arith)) i ++ sym (take_all f xs (omega arith)) i)
