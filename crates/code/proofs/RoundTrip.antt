-- Reading undoes writing, and writing undoes reading. Assumes nothing.
use Rattle.std.proofs.Common.{◌≡◌, ℕ, zero, suc, ◌+◌, ◌-◌, ◌<◌, true, eqb, ltb, leb, List, [], ◌∷◌, ◌++◌, length, get_or, drop, ℤ, Some, None, Option, sym, refl, ap, ◌∙◌, ⊎_elim, arith, lit<, w32, SFits, to_z, of_z, MatchOption}
use Rattle.std.specs.Int.{from_le_bytes, to_le_bytes, w16}
use Rattle.std.proofs.lemmas.Nat.{from_le_bytes-to_le_bytes_2, from_le_bytes-to_le_bytes_4, le_bytes_2, le_bytes_4}
use lib.Signed.{mag, le_z}
use Rattle.records.proofs.Provided.{provided_at, provided_some}
use Rattle.std.specs.Option.{option_and_then, option_map}
use Rattle.std.proofs.lemmas.Option.{option_and_then_some}
use Rattle.code.proofs.Options.{cond_at, mapped_at}
use Rattle.code.specs.Bytes.{byte_at, i32_at, i32_bytes, u16_at, u16_bytes}
use Rattle.code.specs.Lawful.{all_below, all_zero, argument_range, places_lawful, record_lawful}
use Rattle.code.specs.Layout.{count_byte, decode, fields_at, fields_bytes, layout, place_fields, places_of, record_of, target_of}
use Rattle.code.specs.declared.record.Record.{Record}
use Rattle.code.specs.declared.target.Target.{Target}
use Rattle.code.specs.declared.target.Target.TheVariants.{Rear, At}
use Rattle.records.proofs.Operations.{number_of_operation, operation_of_number}
use Rattle.records.specs.Operations.{operation}
use Rattle.records.specs.declared.operation.Operation.{Operation}
use Rattle.records.specs.declared.operation.Operation.TheVariants.{Input, Literal, Negate, Add, Subtract, Multiply, Divide}
use Rattle.std.proofs.lemmas.List.{drop_all, drop_more, places}
use Rattle.std.proofs.lemmas.Int.{ints, to_z-of_z, of_z-to_z}
use Rattle.std.proofs.lemmas.Bool.Decides.{nat_tests}
use Rattle.std.proofs.lemmas.Bool.{and_parts, cases_Bool, cond-false, cond-true, eqb-true, leb-true, ltb-true, ne_eqb}

-- ---- what fits

-- an argument between two ends of 32 bits has 32 bits
fits_between : (low high z : ℤ) → mag low < 2147483648 → mag high < 2147483648 → le_z low z ≡ true → le_z z high ≡ true → mag z < 2147483648
fits_between low high z l h from to = grind (arith, ints, nat_tests)

small_range : (o : Operation) → (mag (argument_range o).0 < 2147483648) × (mag (argument_range o).1 < 2147483648)
small_range Input = (lit< tt, lit< tt)
small_range Literal = (lit< tt, lit< tt)
small_range Negate = (lit< tt, lit< tt)
small_range Add = (lit< tt, lit< tt)
small_range Subtract = (lit< tt, lit< tt)
small_range Multiply = (lit< tt, lit< tt)
small_range Divide = (lit< tt, lit< tt)

of_z_below : (z : ℤ) → SFits w32 z → of_z w32 z < 4294967296
of_z_below z f = grind (arith, ints, nat_tests, f.sfits)

below_at : (n : ℕ) (xs : List ℕ) (i : ℕ) → 0 < n → all_below n xs ≡ true → get_or xs i 0 < n
below_at n [] i some h = some
below_at n (x ∷ xs) i some h = grind (arith, nat_tests, and_parts, below_at n xs (i - 1) some)

zero_at : (xs : List ℕ) (i : ℕ) → all_zero xs ≡ true → get_or xs i 0 ≡ 0
zero_at [] i h = refl
zero_at (x ∷ xs) i h = grind (arith, nat_tests, and_parts, zero_at xs (i - 1))

module _ (r : Record) where
  pub argument_fits : SFits w32 r.argument
  argument_fits =
      let o = r.operation in
      let z = r.argument in
      let range = and_parts (le_z (argument_range o).0 z) (le_z z (argument_range o).1) (and_parts (ltb r.node 65536) _ r.lawful).1 in
      let ends = small_range o in
      record { sfits = fits_between (argument_range o).0 (argument_range o).1 z ends.0 ends.1 range.0 range.1 }

  pub node_fits : r.node < 65536
  node_fits = ltb-true r.node 65536 (and_parts _ _ r.lawful).0

pub field_fits : (t : Target) (i : ℕ) → get_or (place_fields t) i 0 < 65536
field_fits Rear i = grind (arith, places)
field_fits (At p) i = below_at 65536 p.fields i (lit< tt) (and_parts (all_below 65536 p.fields) _ (and_parts (eqb (length p.fields) 4) _ p.lawful).1).0

four_fields : (t : Target) → length (place_fields t) ≡ 4
four_fields Rear = refl
four_fields (At p) = eqb-true (length p.fields) 4 (and_parts (eqb (length p.fields) 4) _ p.lawful).0

-- ---- what is written reads back as itself

target_back : (t : Target) → target_of (count_byte t) (place_fields t) ≡ Some t
target_back Rear = refl
target_back (At p) =
    let few = leb-true p.count 4 (and_parts (leb p.count 4) _ (and_parts (all_below 65536 p.fields) _ (and_parts (eqb (length p.fields) 4) _ p.lawful).1).1).0 in
    cond-false (eqb p.count 255) _ _ (ne_eqb p.count 255 (λ e. omega arith)) ∙ ap (option_map At) (sym (provided_some _ _ p.lawful))

-- the n elements from place k on
abbrev items : ℕ → ℕ → List ℕ → List ℕ
items k zero bs = []
items k (suc n) bs = get_or bs k 0 ∷ items (k + 1) n bs

items_are : (k n : ℕ) (bs : List ℕ) → length bs ≡ k + n → items k n bs ≡ drop k bs
items_are k zero bs long = sym (drop_all k bs (omega arith))
items_are k (suc n) bs long = ap (λ l. get_or bs k 0 ∷ l) (items_are (k + 1) n bs (omega arith)) ∙ sym (drop_more bs k 0 (omega arith))

-- a record from its parts, each of which may be missing
abbrev assembled : Option Operation → Option Target → ℕ → ℤ → Option Record
assembled o t n z = option_and_then (λ p. option_and_then (record_of p n z) t) o

pub reads_back : (r : Record) → decode (layout r) ≡ Some r
reads_back r =
    let t = r.target in
    let fs = place_fields t in
    let field : ℕ → ℕ = λ i. get_or fs i 0 in
    let same : (i : ℕ) → from_le_bytes w16 (to_le_bytes w16 (field i)) ≡ field i = λ i. from_le_bytes-to_le_bytes_2 (field i) (field_fits t i) in
    let bits = of_z w32 r.argument in
    let fields : fields_at (layout r) ≡ fs = (λ i. same 0 i ∷ same 1 i ∷ same 2 i ∷ same 3 i ∷ []) ∙ items_are 0 4 fs (four_fields t) in
    let argument = ap (to_z w32) (from_le_bytes-to_le_bytes_4 bits (of_z_below r.argument (argument_fits r))) ∙ to_z-of_z w32 r.argument (argument_fits r) in
    (λ i. assembled (operation_of_number r.operation i) (target_of (count_byte t) (fields i)) (from_le_bytes-to_le_bytes_2 r.node (node_fits r) i) (argument i))
    ∙ ap (λ u. assembled (Some r.operation) u r.node r.argument) (target_back t)
    ∙ sym (provided_some _ _ r.lawful)

-- ---- what reads well is written back to the same bytes

four_zeros : (fs : List ℕ) → length fs ≡ 4 → all_zero fs ≡ true → 0 ∷ 0 ∷ 0 ∷ 0 ∷ [] ≡ fs
four_zeros fs four zeros = (λ i. sym (at 0) i ∷ sym (at 1) i ∷ sym (at 2) i ∷ sym (at 3) i ∷ []) ∙ items_are 0 4 fs four
  where
    at : (i : ℕ) → get_or fs i 0 ≡ 0
    at i = zero_at fs i zeros

target_read : (n : ℕ) (fs : List ℕ) (t : Target) → length fs ≡ 4 → target_of n fs ≡ Some t → (count_byte t ≡ n) × (place_fields t ≡ fs)
target_read n fs t four e =
    ⊎_elim
    (λ rear.
    let got = provided_at (all_zero fs) (λ _. Rear) t (sym (cond-true (eqb n 255) _ _ rear) ∙ e) in
    (ap count_byte (sym got.1) ∙ sym (eqb-true n 255 rear), ap place_fields (sym got.1) ∙ four_zeros fs four got.0))
    (λ places.
    let at = mapped_at At (places_of n fs) t (sym (cond-false (eqb n 255) _ _ places) ∙ e) in
    let made = provided_at (places_lawful n fs) _ at.0 at.1 in
    (ap count_byte (sym at.2) ∙ ap (λ p. p.count) (sym made.1), ap place_fields (sym at.2) ∙ ap (λ p. p.fields) (sym made.1)))
    (cases_Bool (eqb n 255))

module _ (bs : List ℕ) (small : (i : ℕ) → get_or bs i 0 < 256) where
  -- the byte at i, or that at j
  two_small : (i j k : ℕ) → get_or (get_or bs i 0 ∷ get_or bs j 0 ∷ []) k 0 < 256
  two_small i j zero = small i
  two_small i j (suc zero) = small j
  two_small i j (suc (suc k)) = lit< tt

  argument_small : (k : ℕ) → get_or (get_or bs 4 0 ∷ get_or bs 5 0 ∷ get_or bs 6 0 ∷ get_or bs 7 0 ∷ []) k 0 < 256
  argument_small zero = small 4
  argument_small (suc zero) = small 5
  argument_small (suc (suc k)) = two_small 6 7 k

  pair : (i j : ℕ) → u16_bytes (from_le_bytes w16 (get_or bs i 0 ∷ get_or bs j 0 ∷ [])) ≡ get_or bs i 0 ∷ get_or bs j 0 ∷ []
  pair i j = le_bytes_2 _ _ refl (two_small i j) refl

  argument_bytes : i32_bytes (i32_at bs 4) ≡ get_or bs 4 0 ∷ get_or bs 5 0 ∷ get_or bs 6 0 ∷ get_or bs 7 0 ∷ []
  argument_bytes =
      ap (to_le_bytes w32) (of_z-to_z w32 _ (omega (arith, small 4, small 5, small 6, small 7))) ∙ le_bytes_4 _ _ refl argument_small refl

  pub written_back : (r : Record) → decode bs ≡ Some r → layout r ≡ bs
  written_back r e =
      let whole = cond_at (eqb (length bs) 16) _ r e in
      let long : length bs ≡ 0 + 16 = eqb-true (length bs) 16 whole.0 in
      let row : ℕ → ℕ → List ℕ → List ℕ → List ℕ → List ℕ = λ o k ns zs fs. o ∷ k ∷ (ns ++ (zs ++ fs)) in
      option_and_then_some _ (operation (byte_at bs 0)) r whole.1 (λ o found rest.
      option_and_then_some _ (target_of (byte_at bs 1) (fields_at bs)) r rest (λ t aimed last.
      let target = target_read (byte_at bs 1) (fields_at bs) t refl aimed in
      ap layout (sym (provided_at (record_lawful o (u16_at bs 2) (i32_at bs 4)) _ r last).1)
      ∙ (λ i. row (number_of_operation (byte_at bs 0) o found i) (target.0 i) (pair 2 3 i) (argument_bytes i) (fields_bytes (target.1 i)))
      ∙ (λ i. row (byte_at bs 0) (byte_at bs 1) (get_or bs 2 0 ∷ get_or bs 3 0 ∷ []) (get_or bs 4 0 ∷ get_or bs 5 0 ∷ get_or bs 6 0 ∷ get_or bs 7 0 ∷ []) (pair 8 9 i ++ (pair 10 11 i ++ (pair 12 13 i ++ pair 14 15 i))))
      ∙ items_are 0 16 bs long))

  -- bytes read as the record of that layout, or no record has it
  pub reading_law : (o : Option Record) → o ≡ decode bs → MatchOption o ((x : Record) → layout x ≡ bs → ⊥) (λ x. layout x ≡ bs)
  reading_law None e = λ x same. let h = e ∙ ap decode (sym same) ∙ reads_back x in absurd (cc)
  reading_law (Some x) e = written_back x (sym e)
