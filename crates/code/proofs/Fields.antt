-- The tests of four place fields, as parts of one. Assumes nothing.
use Rattle.std.proofs.Common.{◌≡◌, ℕ, ◌+◌, ◌<◌, ◌≤◌, Bool, true, false, ◌&&◌, List, length, get_or, take, drop, sym, refl, ap, ◌∙◌, subst}
use Rattle.code.specs.Lawful.{all_below, all_zero, ascending, places_lawful}
use Rattle.std.proofs.lemmas.List.{at_drop_more, get_or_default}
use Rattle.std.proofs.lemmas.List.Sums.{list_all-from_AllPass}
use Rattle.std.proofs.lemmas.Bool.{eq-eqb, ne_eqb, lt-ltb, le-leb, false≢true}

-- a test that passes leaves the answer to the next
pub past : (a : Bool) {b r : Bool} → a ≡ true → b ≡ r → (a && b) ≡ r
past true e h = h
past false e h = absurd (false≢true e)

pub all_below_lem : (n : ℕ) (xs : List ℕ) → ((i : ℕ) → i < length xs → get_or xs i 0 < n) → all_below n xs ≡ true
all_below_lem n xs h =
    list_all-from_AllPass _ xs (λ k d within. lt-ltb (get_or xs k d) n (subst (λ x. x < n) (get_or_default xs k 0 d within) (h k within)))

-- one field, and those after it
module _ (xs : List ℕ) (i : ℕ) (within : i < length xs) where
  pub zeros_go_on : get_or xs i 0 ≡ 0 → all_zero (drop i xs) ≡ all_zero (drop (i + 1) xs)
  zeros_go_on e = at_drop_more all_zero xs i 0 within ∙ ap (λ b. b && all_zero (drop (i + 1) xs)) (eq-eqb _ 0 e)

  pub zeros_end : (get_or xs i 0 ≡ 0 → ⊥) → all_zero (drop i xs) ≡ false
  zeros_end e = at_drop_more all_zero xs i 0 within ∙ ap (λ b. b && all_zero (drop (i + 1) xs)) (ne_eqb _ 0 e)

-- the tests of the two parts decide, where the sizes are right
pub lawful_by_parts : (count : ℕ) (fields : List ℕ) → length fields ≡ 4 → ((i : ℕ) → get_or fields i 0 < 65536) → count ≤ 4 → (ascending (take count fields) && all_zero (drop count fields)) ≡ places_lawful count fields
lawful_by_parts count fields four small few =
    sym (past _ (eq-eqb (length fields) 4 four) (past _ (all_below_lem 65536 fields (λ i _. small i)) (past _ (le-leb count 4 few) refl)))

-- the last part decides, where all else was found
pub lawful_by_zeros : (count : ℕ) (fields : List ℕ) → length fields ≡ 4 → ((i : ℕ) → get_or fields i 0 < 65536) → count ≤ 4 → ascending (take count fields) ≡ true → all_zero (drop count fields) ≡ places_lawful count fields
lawful_by_zeros count fields four small few up = sym (past _ up refl) ∙ lawful_by_parts count fields four small few
