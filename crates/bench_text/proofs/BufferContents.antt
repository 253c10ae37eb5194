-- What is answered, and what the buffer holds then, by the buffer's length.
use Rattle.std.proofs.Common.{◌≡◌, ℕ, ◌/◌, ◌<◌, ◌≤◌, List, ◌++◌, length, take, drop, Err, sym, ap, ◌∙◌}
use Rattle.std.proofs.lemmas.List.{length-take-le, take-append-drop}
use Rattle.std.proofs.lemmas.Bool.{cond_below, cond_above}
use Rattle.bench_text.specs.declared.answers.TextError.TheVariants.{BufferTooShort}
use Rattle.bench_text.specs.Reading.{Reading, reading, answer_of, code_of, placed, answered, filled}

-- a buffer that is unchanged from place n on, by its first n bytes
pub settled : (n : ℕ) (old new : List ℕ) → n ≤ length new → drop n new ≡ drop n old → new ≡ placed (take n new) old
settled n old new fits kept =
    let long = length-take-le n new fits in
    sym (take-append-drop n new) ∙ ap (λ (x : List ℕ). take n new ++ x) (kept ∙ ap (λ (k : ℕ). drop k old) (sym long))

pub at_short : (text old : List ℕ) → length old < length text / 2 → (Err BufferTooShort ≡ answered text old) × (old ≡ filled text old)
at_short text old short = (cond_below (length old) (length text / 2) _ _ short, cond_below (length old) (length text / 2) _ _ short)

pub at_long : (text old : List ℕ) (what : Reading) → length text / 2 ≤ length old → reading text ≡ what → (answer_of what ≡ answered text old) × (placed (code_of what) old ≡ filled text old)
at_long text old what long e =
    (cond_above (length old) (length text / 2) _ _ _ long (ap answer_of (sym e)), cond_above (length old) (length text / 2) _ _ _ long (ap (λ (x : Reading). placed (code_of x) old) (sym e)))
