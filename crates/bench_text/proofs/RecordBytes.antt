-- What the pairs of digits of a record say of the whole.
use Rattle.std.proofs.Common.{◌≡◌, ℕ, zero, suc, ◌+◌, ◌*◌, ◌/◌, ◌<◌, List, [], ◌∷◌, length, get_or, set, Some, None, Option, sym, refl, ap, ◌∙◌, ⊎_elim, arith}
use Rattle.std.specs.Simd.{first_chunks}
use Rattle.std.proofs.lemmas.Bool.{cases_eq, eq-eqb, ne_eqb, cond-false, cond-true}
use Rattle.std.proofs.lemmas.Grind.{common_steps}
use Rattle.bench_text.specs.Steps.{◌>>=◌}
use Rattle.bench_text.specs.Hex.{hex_byte, hex_bytes, hex_record}

-- the byte of the pair at i
abbrev pub byte_at : List (List ℕ) → ℕ → Option ℕ
byte_at pairs i = hex_byte (get_or (get_or pairs i []) 0 0) (get_or (get_or pairs i []) 1 0)

pub all_bytes : (line bytes : List ℕ) (n : ℕ) → length line ≡ 2 * n → length bytes ≡ n → ((i : ℕ) → i < n → byte_at (first_chunks 2 n line) i ≡ Some (get_or bytes i 0)) → hex_bytes line ≡ Some bytes
all_bytes [] [] n long room each = refl
all_bytes [] (b ∷ bytes) n long room each = absurd (omega arith)
all_bytes (d ∷ ds) [] n long room each = absurd (omega arith)
all_bytes (d ∷ ds) (b ∷ bytes) zero long room each = absurd (omega arith)
all_bytes (d ∷ []) (b ∷ bytes) (suc n) long room each = absurd (omega arith)
all_bytes (d ∷ e ∷ ds) (b ∷ bytes) (suc n) long room each =
    let more = all_bytes ds bytes n (omega arith) (omega arith) (λ i below. each (suc i) (omega arith)) in
    λ i. each 0 (omega arith) i >>= λ x. more i >>= λ xs. Some (x ∷ xs)

pub no_bytes : (line : List ℕ) (n i : ℕ) → length line ≡ 2 * n → i < n → None ≡ byte_at (first_chunks 2 n line) i → None ≡ hex_bytes line
no_bytes line zero i long within none = absurd (omega arith)
no_bytes [] (suc n) i long within none = absurd (omega arith)
no_bytes (d ∷ []) (suc n) i long within none = absurd (omega arith)
no_bytes (d ∷ e ∷ ds) (suc n) zero long within none = ap (λ (o : Option ℕ). o >>= λ b. hex_bytes ds >>= λ bs. Some (b ∷ bs)) none
no_bytes (d ∷ e ∷ ds) (suc n) (suc i) long within none = by (hex_byte d e) ∙ ap (λ (o : Option (List ℕ)). hex_byte d e >>= λ b. o >>= λ bs. Some (b ∷ bs)) (no_bytes ds n i (omega arith) (omega arith) none)
  where
    by : (o : Option ℕ) → None ≡ (o >>= λ b. None >>= λ (bs : List ℕ). Some (b ∷ bs))
    by None = refl
    by (Some b) = refl

-- the bytes so far, with one more
pub one_more : (f : ℕ → Option ℕ) (bytes : List ℕ) (i b : ℕ) → i < length bytes → ((k : ℕ) → k < i → f k ≡ Some (get_or bytes k 0)) → f i ≡ Some b → (k : ℕ) → k < i + 1 → f k ≡ Some (get_or (set bytes i b) k 0)
one_more f bytes i b within below here k bound =
    ⊎_elim (λ same. grind (arith, common_steps)) (λ other. let before = below k (omega arith) in grind (arith, common_steps)) (cases_eq k i)

pub long_record : (line : List ℕ) → length line ≡ 32 → hex_bytes line ≡ hex_record line
long_record line e = sym (cond-true _ _ _ (eq-eqb (length line) 32 e))

pub other_record : (line : List ℕ) → (length line ≡ 32 → ⊥) → None ≡ hex_record line
other_record line e = sym (cond-false _ (hex_bytes line) None (ne_eqb (length line) 32 e))

module _ (line : List ℕ) (pairs : List (List ℕ)) (long : length line ≡ 32) (cut : pairs ≡ first_chunks 2 (length line / 2) line) where
  sixteen : pairs ≡ first_chunks 2 16 line
  sixteen = let half : length line / 2 ≡ 16 = omega arith in cut ∙ ap (λ (n : ℕ). first_chunks 2 n line) half

  pub no_byte : (i : ℕ) → i < 16 → None ≡ byte_at pairs i → None ≡ hex_record line
  no_byte i within none = no_bytes line 16 i long within (none ∙ ap (λ (ps : List (List ℕ)). byte_at ps i) sixteen) ∙ long_record line long

  pub whole_record : (bytes : List ℕ) → length bytes ≡ 16 → ((i : ℕ) → i < 16 → byte_at pairs i ≡ Some (get_or bytes i 0)) → Some bytes ≡ hex_record line
  whole_record bytes room each =
      sym (all_bytes line bytes 16 long room (λ i below. ap (λ (ps : List (List ℕ)). byte_at ps i) (sym sixteen) ∙ each i below)) ∙ long_record line long
