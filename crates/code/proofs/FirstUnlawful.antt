-- The first record that is not lawful, as one more record is looked at. For whoever builds on the definition. Assumes nothing.
use Rattle.std.proofs.Common.{◌≡◌, ℕ, zero, suc, ◌+◌, ◌<◌, Bool, true, false, cond, not, List, is_some, is_none, Some, None, Option, refl, ap, ◌∙◌, add-one, arith}
use Rattle.std.specs.List.{find, range_with_len}
use Rattle.code.specs.Verdict.{first_unlawful, lawful_at}
use Rattle.code.proofs.Verdicts.{stays}

-- what number m makes of a search that has gone over the numbers before it
abbrev onward : ℕ → Bool → Option ℕ → Option ℕ
onward m found None = cond found (Some m) None
onward m found (Some i) = Some i

find_more : (p : ℕ → Bool) (a n : ℕ) → find p (range_with_len a (suc n)) ≡ onward (a + n) (p (a + n)) (find p (range_with_len a n))
find_more p a zero = let same : a ≡ a + 0 = omega arith in ap (λ m. cond (p m) (Some m) None) same
find_more p a (suc n) =
    let next : a + 1 + n ≡ a + suc n = omega arith in
    ap (cond (p a) (Some a)) (find_more p (a + 1) n) ∙ by (p a) (find p (range_with_len (a + 1) n))
    ∙ ap (λ m. onward m (p m) (find p (range_with_len a (suc n)))) next
  where
    by : (t : Bool) (o : Option ℕ) → cond t (Some a) (onward (a + 1 + n) (p (a + 1 + n)) o) ≡ onward (a + 1 + n) (p (a + 1 + n)) (cond t (Some a) o)
    by true o = refl
    by false o = refl

module _ (code : List ℕ) where
  onward_is : (n : ℕ) → first_unlawful code (suc n) ≡ onward n (is_none (lawful_at code n)) (first_unlawful code n)
  onward_is n =
      let same : 0 + n ≡ n = omega arith in
      find_more (λ i. is_none (lawful_at code i)) 0 n ∙ ap (λ m. onward m (is_none (lawful_at code m)) (first_unlawful code n)) same

  pub lawful_so_far : (n : ℕ) → first_unlawful code n ≡ None → is_some (lawful_at code n) ≡ true → first_unlawful code (n + 1) ≡ None
  lawful_so_far n before here = ap (first_unlawful code) (add-one n) ∙ onward_is n ∙ (λ i. onward n (not (here i)) (before i))

  unlawful_here : (n : ℕ) → first_unlawful code n ≡ None → is_some (lawful_at code n) ≡ false → first_unlawful code (suc n) ≡ Some n
  unlawful_here n before here = onward_is n ∙ (λ i. onward n (not (here i)) (before i))

  pub unlawful_at : (n m : ℕ) → n < m → first_unlawful code n ≡ None → is_some (lawful_at code n) ≡ false → first_unlawful code m ≡ Some n
  unlawful_at n m h before here =
      stays (first_unlawful code) (Some n) (λ k e. onward_is k ∙ ap (onward k _) e) (suc n) m (omega arith) (unlawful_here n before here)
