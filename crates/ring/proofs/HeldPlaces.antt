-- The places of a ring over slots: how many, what a look and a write meet, what a turn makes of them. The clauses of `Ring`
-- speak of slots that hold numbers; a crate with slots of another type cites these. Assumes nothing.
use Rattle.std.proofs.Common.{◌≡◌, ℕ, ◌+◌, ◌-◌, ◌<◌, ◌≤◌, ◌⊎◌, cond, nat_lt, List, length, get_or, take, set, Some, None, Option, sym, ap, ◌∙◌, inl, inr, ⊎_elim, append-nil, arith, length-set, MatchOption}
use lib.Seq.{take-set-lt}
use Rattle.ring.proofs.RingViews.{view_length, view_turn, view_over}
use Rattle.ring.specs.Held.{held}
use Rattle.ring.specs.Views.{ring_view, shifted, slot_of, next_front}
use Rattle.ring.specs.declared.ring.Ring.{Ring}
use Rattle.std.proofs.lemmas.List.{places, same_lists, get_or-set_same, get_or-set_other, length-take-le, nil_from_length}
use Rattle.std.proofs.lemmas.Bool.Decides.{nat_tests}
use Rattle.std.proofs.lemmas.Bool.{cases_eq, cases_lt, cond-false, cond-true, le-ltb, lt-ltb}

-- where a slot is found, its place is there
module _ (front size k : ℕ) where
  pub slot_inside : (j : ℕ) → slot_of front size k ≡ Some j → k < size
  slot_inside j e = grind (arith, nat_tests)

  pub slot_none : slot_of front size k ≡ None → size ≤ k
  slot_none e = grind (arith, nat_tests)

  pub slot_missing : size ≤ k → slot_of front size k ≡ None
  slot_missing h = grind (arith, nat_tests)

  -- the slot by the two ways round
  pub slot_is : (j : ℕ) → slot_of front size k ≡ Some j → j ≡ cond (nat_lt k (size - front)) (front + k) (k - (size - front))
  slot_is j e = grind (arith, nat_tests)

-- place 0 is the slot at the front
pub front_slot : (r : Ring) (j : ℕ) → slot_of r.front r.size 0 ≡ Some j → j ≡ r.front
front_slot r j found = grind (arith, nat_tests, r.front_within)

module _ {X : Type 0} (r : Ring) (slots : List X) (enough : r.size ≤ length slots) where
  part_long : length (take r.size slots) ≡ r.size
  part_long = length-take-le r.size slots enough

  inside : r.front ≤ length (take r.size slots)
  inside = omega (arith, part_long, r.front_within)

  pub held_length : length (held r slots) ≡ r.size
  held_length = view_length r.front (take r.size slots) inside ∙ part_long

  -- j is the slot of place k
  module _ (k j : ℕ) (found : slot_of r.front r.size k ≡ Some j) where
    pub slot_within : j < r.size
    slot_within = grind (arith, nat_tests, found, r.front_within)

    pub held_at : (d : X) → get_or (held r slots) k d ≡ get_or slots j d
    held_at d = grind (arith, nat_tests, places, found, r.front_within, part_long)

    pub held_set : (v : X) → held r (set slots j v) ≡ set (held r slots) k v
    held_set v =
        let same = length-set slots j v in
        same_lists _ _ (grind (arith, places, same, length-set (held r slots) k v))
        (λ i d h. grind (arith, nat_tests, places, get_or-set_same, get_or-set_other, cases_eq i k, same, found, r.front_within, enough))

  -- the ring after a turn, with v written at the old front
  module _ (s : Ring) (size : s.size ≡ r.size) (front : s.front ≡ next_front r.front r.size) (v : X) where
    pub held_turned : held s (set slots r.front v) ≡ shifted v (held r slots)
    held_turned = ap (λ n. ring_view s.front (take n (set slots r.front v))) size ∙ by_size (cases_eq r.size 0)
      where
        some : (r.size ≡ 0 → ⊥) → ring_view s.front (take r.size (set slots r.front v)) ≡ shifted v (held r slots)
        some ne =
            ap (ring_view s.front) (take-set-lt r.size slots r.front v (omega (arith, r.front_within)))
            ∙ ⊎_elim
            (λ on. ap (λ f. ring_view f (set (take r.size slots) r.front v)) (front ∙ cond-true _ _ _ (lt-ltb 1 (r.size - r.front) on)))
            (λ over.
            ap (λ f. ring_view f (set (take r.size slots) r.front v)) (front ∙ cond-false _ _ _ (le-ltb 1 (r.size - r.front) over))
            ∙ view_over (r.front + 1) (set (take r.size slots) r.front v) (omega (arith, part_long, length-set (take r.size slots) r.front v, r.front_within)))
            (cases_lt 1 (r.size - r.front))
            ∙ view_turn r.front (take r.size slots) v (omega (arith, part_long, r.front_within))

        none : r.size ≡ 0 → ring_view s.front (take r.size (set slots r.front v)) ≡ shifted v (held r slots)
        none e =
            nil_from_length _ (view_length s.front (take r.size (set slots r.front v)) (omega (arith, s.front_within, size)) ∙ length-take-le r.size (set slots r.front v) (omega (arith, enough, length-set slots r.front v)) ∙ e)
            ∙ ap (shifted v) (sym (nil_from_length (held r slots) (held_length ∙ e)))

        by_size : (r.size ≡ 0) ⊎ (r.size ≡ 0 → ⊥) → ring_view s.front (take r.size (set slots r.front v)) ≡ shifted v (held r slots)
        by_size (inl e) = none e
        by_size (inr ne) = some ne

-- a ring that begins at slot 0 holds its slots as they stand
pub held_new : {X : Type 0} (r : Ring) (slots : List X) → r.front ≡ 0 → held r slots ≡ take r.size slots
held_new r slots e = ap (λ f. ring_view f (take r.size slots)) e ∙ append-nil (take r.size slots)

-- what a ring answers for place k, over as many slots as it has
pub slot_law : (r : Ring) (xs : List ℕ) → length xs ≡ r.size → (k : ℕ) (o : Option ℕ) → o ≡ slot_of r.front r.size k → MatchOption o (length xs ≤ k) (λ j. (j < length xs) × (get_or (held r xs) k 0 ≡ get_or xs j 0))
slot_law r xs e k None none = omega (arith, slot_none r.front r.size k (sym none))
slot_law r xs e k (Some j) found =
    (omega (arith, slot_within r xs (omega arith) k j (sym found)), held_at r xs (omega arith) k j (sym found) 0)
