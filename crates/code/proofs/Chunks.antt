-- The records of a code, as the chunks of 16 bytes that it begins with. Assumes nothing.
use Rattle.std.proofs.Common.{◌≡◌, ℕ, zero, suc, ◌+◌, ◌*◌, ◌/◌, ◌<◌, ◌≤◌, false, eqb, Bor, List, length, get_or, take, drop, Some, None, Option, MatchOption, sym, ap, ◌∙◌, arith, length-drop, length-take}
use Rattle.std.specs.List.{HoldsAt}
use Rattle.std.specs.Simd.{first_chunks}
use Rattle.std.proofs.lemmas.List.{drop-drop, get_or_past}
use Rattle.code.specs.Layout.{row}
use Rattle.code.specs.Verdict.{is_simple}

chunk_at : {X : Type 0} (n k : ℕ) (xs : List X) (i : ℕ) (d : List X) → i < k → get_or (first_chunks n k xs) i d ≡ take n (drop (n * i) xs)
chunk_at n zero xs i d within = absurd (omega arith)
chunk_at n (suc k) xs zero d within = let none : 0 ≡ n * 0 = omega arith in ap (λ m. take n (drop m xs)) none
chunk_at n (suc k) xs (suc i) d within =
    let next : n + n * i ≡ n * suc i = omega arith in
    chunk_at n k (drop n xs) i d (omega arith) ∙ ap (take n) (drop-drop (n * i) n xs ∙ ap (λ m. drop m xs) next)

-- what a look at chunk i found
module _ (code : List ℕ) (i : ℕ) (rows : List (List ℕ)) (chunks : rows ≡ first_chunks 16 (length code / 16) code) (many : length rows ≡ length code / 16) where
  pub row_found : (o : Option (Bor (List ℕ))) → MatchOption o (length rows ≤ i) (λ x. (i < length rows) × HoldsAt (λ y. x.now ≡ y) rows i) → MatchOption o (length (row code i) < 16) (λ x. x.now ≡ row code i)
  row_found None past = omega (arith, many, length-take 16 (drop (16 * i) code), length-drop (16 * i) code)
  row_found (Some x) here =
      here.1 x.now ∙ ap (λ rs. get_or rs i x.now) chunks ∙ chunk_at 16 (length code / 16) code i x.now (omega (arith, here.0, many))

-- code without a byte 1 is not simple
pub simple_short : (code : List ℕ) → length code < 2 → false ≡ is_simple code
simple_short code short = ap (λ b. eqb b 255) (sym (get_or_past code 1 0 (omega arith)))
