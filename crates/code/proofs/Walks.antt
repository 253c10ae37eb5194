-- The marks as the places and the records go by: what one more of them makes. For whoever builds on the definitions.
-- Assumes nothing.
use Rattle.std.proofs.Common.{◌≡◌, ℕ, ◌+◌, ◌<◌, Bool, true, false, cond, ltb, List, [], ◌∷◌, length, get_or, drop, set, sym, refl, ap, ◌∙◌, ⊎_elim, add-one, arith}
use Rattle.std.specs.List.{range_with_len}
use Rattle.std.proofs.lemmas.Bool.{cases_Bool, cases_eq, false≢true}
use Rattle.std.proofs.lemmas.List.{drop_more}
use Rattle.std.proofs.lemmas.List.FromFn.{get_or-range_with_len, length-range_with_len}
use Rattle.std.proofs.lemmas.List.Sums.{AllPass-from_list_all, list_all-from_AllPass}
use Rattle.code.specs.Marks.{front_full, pass, passes}
use Rattle.code.specs.Verdict.{puts}
use Rattle.records.specs.Refusals.{Answer, granted, refused, if_granted}

-- ---- the full front places

counted_from_0 : (n i d : ℕ) → i < n → get_or (range_with_len 0 n) i d ≡ i
counted_from_0 n i d h = let same : 0 + i ≡ i = omega arith in get_or-range_with_len 0 n i d h ∙ same

-- each place of a full front is full
front_place : (ms : List Bool) (n k : ℕ) → k < n → front_full n ms ≡ true → get_or ms k false ≡ true
front_place ms n k h full =
    ap (λ j. get_or ms j false) (sym (counted_from_0 n k 0 h))
    ∙ AllPass-from_list_all (λ j. get_or ms j false) (range_with_len 0 n) full k 0 (omega (arith, length-range_with_len 0 n))

pub front_more : (ms : List Bool) (k : ℕ) → front_full k ms ≡ true → true ≡ get_or ms k false → front_full (k + 1) ms ≡ true
front_more ms k before here =
    list_all-from_AllPass (λ j. get_or ms j false) (range_with_len 0 (k + 1)) (λ i d within.
    let below : i < k + 1 = omega (arith, length-range_with_len 0 (k + 1)) in
    ap (λ j. get_or ms j false) (counted_from_0 (k + 1) i d below)
    ∙ ⊎_elim (λ same. ap (λ j. get_or ms j false) same ∙ sym here) (λ other. front_place ms k i (omega arith) before) (cases_eq i k))

pub front_breaks : (ms : List Bool) (n k : ℕ) → k < n → false ≡ get_or ms k false → false ≡ front_full n ms
front_breaks ms n k h e =
    ⊎_elim (λ full. absurd (false≢true (e ∙ front_place ms n k h full))) (λ broken. sym broken) (cases_Bool (front_full n ms))

-- ---- passes and puts

pub passes_more : (n : ℕ) (ms : List Bool) → passes (n + 1) ms ≡ pass (passes n ms)
passes_more n ms = ap (λ k. passes k ms) (add-one n)

pub puts_first : (i k : ℕ) (ks : List ℕ) (ms : List Bool) → puts i (k ∷ ks) ms ≡ if_granted (puts i (k ∷ []) ms) (puts i ks)
puts_first i k ks ms = by (ltb k (length ms)) (get_or ms k false)
  where
    by : (there full : Bool) → cond there (cond full (refused 23 i 0) (puts i ks (set ms k true))) (refused 24 i 0) ≡ if_granted (cond there (cond full (refused 23 i 0) (granted (set ms k true))) (refused 24 i 0)) (puts i ks)
    by true true = refl
    by true false = refl
    by false full = refl

-- the places from place j of the list on, where the one at j was put on as a call answered
pub puts_at : (i j : ℕ) (ks : List ℕ) (ms : List Bool) (first : Answer (List Bool)) → j < length ks → first ≡ puts i (get_or ks j 0 ∷ []) ms → puts i (drop j ks) ms ≡ if_granted first (puts i (drop (j + 1) ks))
puts_at i j ks ms first within is =
    ap (λ l. puts i l ms) (drop_more ks j 0 within) ∙ puts_first i (get_or ks j 0) (drop (j + 1) ks) ms
    ∙ ap (λ a. if_granted a (puts i (drop (j + 1) ks))) (sym is)
