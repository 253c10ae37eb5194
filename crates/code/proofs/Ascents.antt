-- A row that ascends, and what a test of its neighbours says. Assumes nothing.
use Rattle.std.proofs.Common.{◌≡◌, ℕ, zero, suc, ◌+◌, ◌<◌, Bool, true, false, List, [], ◌∷◌, length, get_or, nat_lt, sym, refl, ap, ◌∙◌, add-one, arith}
use Rattle.std.specs.List.{IsAllAdjacentAnswer}
use Rattle.std.proofs.lemmas.Bool.{and_from, and_left, and_right}
use Rattle.code.specs.Lawful.{ascending}

all_ascend : (xs : List ℕ) → ((k j d : ℕ) → j ≡ k + 1 → j < length xs → true ≡ nat_lt (get_or xs k d) (get_or xs j d)) → ascending xs ≡ true
all_ascend [] h = refl
all_ascend (x ∷ []) h = refl
all_ascend (x ∷ y ∷ ys) h =
    and_from _ _ (sym (h 0 1 0 refl (omega arith))) (all_ascend (y ∷ ys) (λ k j d next within. h (suc k) (suc j) d (omega (arith, next)) (omega arith)))

one_does_not : (xs : List ℕ) (k j : ℕ) → j ≡ suc k → j < length xs → ((d : ℕ) → false ≡ nat_lt (get_or xs k d) (get_or xs j d)) → ascending xs ≡ false
one_does_not [] k j next within h = absurd (omega arith)
one_does_not (x ∷ []) k j next within h = absurd (omega (arith, next))
one_does_not (x ∷ y ∷ ys) k zero next within h = absurd (omega (arith, next))
one_does_not (x ∷ y ∷ ys) zero (suc zero) next within h = and_left _ _ (sym (h 0))
one_does_not (x ∷ y ∷ ys) zero (suc (suc j)) next within h = absurd (omega (arith, next))
one_does_not (x ∷ y ∷ ys) (suc k) (suc j) next within h = and_right _ _ (one_does_not (y ∷ ys) k j (omega (arith, next)) (omega arith) h)

pub ascending_answer : (xs : List ℕ) (r : Bool) → IsAllAdjacentAnswer (λ x y b. b ≡ nat_lt x y) xs r → r ≡ ascending xs
ascending_answer xs true all = sym (all_ascend xs (λ k j d next within. all k d (omega (arith, next)) ∙ ap (λ i. nat_lt (get_or xs k d) (get_or xs i d)) (sym next)))
ascending_answer xs false some = sym (one_does_not xs some.0 (some.0 + 1) (add-one some.0) some.1 some.2)
