-- The first place at which a test holds, by the front that is cut off there. Assumes nothing.
use Rattle.std.proofs.Common.{◌≡◌, ℕ, ◌≤◌, Bool, true, false, cond, List, ◌∷◌, ◌++◌, length, length-append, nat_lt, Some, None, refl, sym, ap, ◌∙◌, position, arith}
use Rattle.std.specs.Bool.{MatchBool, then_some}
use Rattle.std.specs.List.{IsFirstMatchOrLen, position_or_len}
use Rattle.std.proofs.lemmas.List.Sums.{position_or_len_is}

-- the front is the whole, or an element follows it
front_fits : (xs front rest : List ℕ) (done : Bool) → MatchBool done (xs ≡ front) ((x : ℕ) × (xs ≡ front ++ (x ∷ rest))) → length front ≤ length xs
front_fits xs front rest true whole = omega (arith, ap length whole)
front_fits xs front rest false cut = omega (arith, ap length cut.1, length-append front (cut.0 ∷ rest))

chosen : (b : Bool) (n : ℕ) → then_some b n ≡ cond b (Some n) None
chosen true n = refl
chosen false n = refl

pub place_after_front :
    (p : ℕ → Bool) (xs front rest : List ℕ) (done : Bool)
    → MatchBool done (xs ≡ front) ((x : ℕ) × (xs ≡ front ++ (x ∷ rest)))
    → IsFirstMatchOrLen p xs (length front)
    → then_some (nat_lt (length front) (length xs)) (length front) ≡ position p xs
place_after_front p xs front rest done parts first =
    let at : position_or_len p xs ≡ length front = position_or_len_is p xs (length front) 0 (front_fits xs front rest done parts) (λ k below. first.0 k 0 (omega arith) below) (λ within. first.1 within 0) in
    ap (λ (n : ℕ). then_some (nat_lt n (length xs)) n) (sym at) ∙ chosen _ (position_or_len p xs)
