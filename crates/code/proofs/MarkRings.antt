-- A put and a pass on marks that are kept in a ring of slots. Assumes nothing.
use Rattle.std.proofs.Common.{◌≡◌, ℕ, ◌+◌, ◌-◌, ◌<◌, ◌≤◌, Bool, true, false, List, [], ◌∷◌, length, get_or, set, Some, sym, ap, ◌∙◌, arith}
use Rattle.std.specs.Int.{from_bool}
use Rattle.std.proofs.lemmas.Bool.{cond-false, cond-true, lt-ltb}
use Rattle.std.proofs.lemmas.List.Sums.{count_by-le-length}
use Rattle.ring.proofs.HeldPlaces.{front_slot, held_at, held_length, held_set, held_turned, slot_inside}
use Rattle.ring.specs.Held.{held}
use Rattle.ring.specs.Views.{next_front, slot_of}
use Rattle.ring.specs.declared.ring.Ring.{Ring}
use Rattle.records.specs.Refusals.{granted}
use Rattle.code.proofs.Counts.{count_put, from_bool-is, full_count-pass}
use Rattle.code.specs.declared.marks.Marks.TheInside.{Inside}
use Rattle.code.specs.Marks.{IsCounted, full_count, pass}
use Rattle.code.specs.Verdict.{puts}

-- a put on a place that is there and empty
puts_one : (i k : ℕ) (ms : List Bool) → k < length ms → get_or ms k false ≡ false → granted (set ms k true) ≡ puts i (k ∷ []) ms
puts_one i k ms there empty = sym (cond-true _ _ _ (lt-ltb k (length ms) there) ∙ cond-false _ _ _ empty)

module _ (m : Inside) (so : IsCounted m.ring.size m.full (held m.ring m.slots)) (long : length m.slots ≡ 4096) where
  enough : m.ring.size ≤ length m.slots
  enough = omega (arith, so.few, long)

  pub few_full : m.full ≤ 4096
  few_full = omega (arith, so.counted, so.few, count_by-le-length (λ b. b) (held m.ring m.slots), held_length m.ring m.slots enough)

  -- j is the slot of place k, and empty
  module _ (k j : ℕ) (found : slot_of m.ring.front m.ring.size k ≡ Some j) (free : get_or m.slots j false ≡ false) where
    there : k < length (held m.ring m.slots)
    there = omega (arith, held_length m.ring m.slots enough, slot_inside m.ring.front m.ring.size k j found)

    empty : get_or (held m.ring m.slots) k false ≡ false
    empty = held_at m.ring m.slots enough k j found false ∙ free

    pub put_counted : IsCounted m.ring.size (m.full + 1) (held m.ring (set m.slots j true))
    put_counted =
        let more = count_put (held m.ring m.slots) k there empty in
        let same = held_set m.ring m.slots enough k j found true in
        record { few = so.few; counted = ap (λ n. n + 1) so.counted ∙ sym more ∙ ap full_count (sym same) }

    pub put_granted : (i : ℕ) → granted (held m.ring (set m.slots j true)) ≡ puts i (k ∷ []) (held m.ring m.slots)
    put_granted i = ap granted (held_set m.ring m.slots enough k j found true) ∙ puts_one i k (held m.ring m.slots) there empty

  -- j is the slot of place 0
  module _ (j : ℕ) (found : slot_of m.ring.front m.ring.size 0 ≡ Some j) where
    -- the full places are place 0, where it is full, and those that a pass leaves
    pub first_counted : from_bool (get_or m.slots j false) + full_count (pass (held m.ring m.slots)) ≡ m.full
    first_counted =
        let same = ap from_bool (sym (held_at m.ring m.slots enough 0 j found false)) ∙ from_bool-is (get_or (held m.ring m.slots) 0 false) in
        omega (arith, full_count-pass (held m.ring m.slots), so.counted, same)

    -- s is the ring once it has turned
    module _ (s : Ring) (size : s.size ≡ m.ring.size) (front : s.front ≡ next_front m.ring.front m.ring.size) where
      pub passes_place_0 : held s (set m.slots j false) ≡ pass (held m.ring m.slots)
      passes_place_0 = ap (λ i. held s (set m.slots i false)) (front_slot m.ring j found) ∙ held_turned m.ring m.slots enough s size front false

      pub pass_counted : (n : ℕ) → n ≡ from_bool (get_or m.slots j false) → IsCounted s.size (m.full - n) (held s (set m.slots j false))
      pass_counted n first =
          let same = ap full_count passes_place_0 in
          record { few = omega (arith, size, so.few); counted = omega (arith, first_counted, first, same) }
