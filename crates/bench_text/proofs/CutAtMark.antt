-- What a cut at a mark gives.
use Rattle.std.proofs.Common.{◌≡◌, ◌==◌, ℕ, suc, ◌+◌, Bool, true, false, cond, not, ◌⊎◌, List, [], ◌∷◌, ◌++◌, length, get_or, take, drop, refl, ap, ◌∙◌, inl, inr, ⊎_elim, arith}
use Rattle.std.specs.List.{before_first, after_first, position_or_len}
use Rattle.std.proofs.lemmas.Bool.{eqb-true, eqb-false, cases_lt}
use Rattle.std.proofs.lemmas.Bool.Decides.{nat_tests}
use Rattle.std.proofs.lemmas.Grind.{common_steps}
use Rattle.std.proofs.lemmas.List.Sums.{split_at_first, passes_at_first, fails_before_first, position_or_len_is}
use Rattle.std.proofs.Math.Seq.{drop-append-add}
use Rattle.bench_text.specs.Spelling.{Free}

pub cut-cons : {X : Type 0} (p : X → Bool) (x : X) (xs : List X) → (before_first p (x ∷ xs) ≡ cond (p x) [] (x ∷ before_first p xs)) × (after_first p (x ∷ xs) ≡ cond (p x) xs (after_first p xs))
cut-cons {X} p x xs = by (p x)
  where
    n : ℕ
    n = position_or_len p xs

    by : (t : Bool) → (take (cond (not t) (1 + n) 0) (x ∷ xs) ≡ cond t [] (x ∷ take n xs)) × (drop (cond (not t) (1 + n) 0 + 1) (x ∷ xs) ≡ cond t xs (drop (n + 1) xs))
    by true = (refl, refl)
    by false =
        let next : 1 + n ≡ suc n = omega arith in
        let after : 1 + n + 1 ≡ suc (n + 1) = omega arith in
        (ap (λ (k : ℕ). take k (x ∷ xs)) next, ap (λ (k : ℕ). drop k (x ∷ xs)) after)

module _ (mark : ℕ) where
  pub before_free : (bs : List ℕ) → Free mark (before_first (λ b. b == mark) bs)
  before_free bs k d within same =
      let other = fails_before_first (λ b. b == mark) bs k d (grind (arith, common_steps)) in
      eqb-false (get_or bs k d) mark other (grind (arith, common_steps))

  -- the two parts, with the mark between them if there is one
  abbrev pub Rejoined : List ℕ → List ℕ → List ℕ → Type 0
  Rejoined bs front back = ((bs ≡ front) × (back ≡ [])) ⊎ (bs ≡ front ++ (mark ∷ back))

  pub rejoined : (bs : List ℕ) → Rejoined bs (before_first (λ b. b == mark) bs) (after_first (λ b. b == mark) bs)
  rejoined bs =
      let first = position_or_len (λ b. b == mark) bs in
      ⊎_elim
      (λ within. inr (split_at_first (λ b. b == mark) bs 0 within ∙ ap (λ (x : ℕ). take first bs ++ (x ∷ drop (first + 1) bs)) (eqb-true (get_or bs first 0) mark (passes_at_first (λ b. b == mark) bs 0 within))))
      (λ past. inl (grind (arith, common_steps), grind (arith, common_steps)))
      (cases_lt first (length bs))

  pub cut_marked : (front back : List ℕ) → Free mark front → (before_first (λ b. b == mark) (front ++ (mark ∷ back)) ≡ front) × (after_first (λ b. b == mark) (front ++ (mark ∷ back)) ≡ back)
  cut_marked front back free =
      let first : position_or_len (λ b. b == mark) (front ++ (mark ∷ back)) ≡ length front = position_or_len_is (λ b. b == mark) (front ++ (mark ∷ back)) (length front) 0 (grind (arith, common_steps)) (λ k below. let other = free k 0 below in grind (arith, common_steps, nat_tests)) (λ within. grind (arith, common_steps, nat_tests)) in
      (grind (arith, common_steps), ap (λ (n : ℕ). drop (n + 1) (front ++ (mark ∷ back))) first ∙ drop-append-add front (mark ∷ back) 1)

  pub cut_free : (bs : List ℕ) → Free mark bs → (before_first (λ b. b == mark) bs ≡ bs) × (after_first (λ b. b == mark) bs ≡ [])
  cut_free bs free =
      let first : position_or_len (λ b. b == mark) bs ≡ length bs = position_or_len_is (λ b. b == mark) bs (length bs) 0 (omega arith) (λ k below. let other = free k 0 below in grind (arith, common_steps, nat_tests)) (λ within. absurd (omega arith)) in
      (grind (arith, common_steps), grind (arith, common_steps))
