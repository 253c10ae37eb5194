-- Which lines a text has, by how it is laid out.
use Rattle.std.proofs.Common.{◌≡◌, ◌==◌, ℕ, ◌<◌, List, [], ◌∷◌, ◌++◌, length, sym, refl, ap, ◌∙◌, subst, inl, inr, ⊎_elim, append_assoc, append-nil, arith, length-append}
use Rattle.std.specs.List.{AllByRecursion, before_first, after_first}
use Rattle.std.proofs.lemmas.List.{append_cancel_right}
use Rattle.bench_text.specs.Lines.{lines}
use Rattle.bench_text.specs.Spelling.{ended, Laid, Free, Ends}
use Rattle.bench_text.proofs.LineByLine.{lines_step}
use Rattle.bench_text.proofs.CutAtMark.{before_free, rejoined, cut_marked, cut_free}

-- a line that is not empty
abbrev pub Whole : List ℕ → Type 0
Whole line = (0 < length line) × Free 10 line

line_first : (l rest : List ℕ) → Free 10 l → lines (l ++ (10 ∷ rest)) ≡ l ∷ lines rest
line_first l rest free =
    let parts = cut_marked 10 l rest free in
    lines_step (l ++ (10 ∷ rest)) (simp length-append (omega arith)) ∙ (λ i. parts.0 i ∷ lines (parts.1 i))

line_alone : (l : List ℕ) → Whole l → lines l ≡ l ∷ []
line_alone l whole =
    let parts = cut_free 10 l whole.1 in
    lines_step l whole.0 ∙ (λ i. parts.0 i ∷ lines (parts.1 i))

pub lines-ended : (front : List (List ℕ)) (rest : List ℕ) → AllByRecursion (Free 10) front → lines (ended front ++ rest) ≡ front ++ lines rest
lines-ended [] rest free = refl
lines-ended (l ∷ front) rest free =
    ap lines (append_assoc l (10 ∷ ended front) rest) ∙ line_first l (ended front ++ rest) free.0 ∙ ap (λ (x : List (List ℕ)). l ∷ x) (lines-ended front rest free.1)

last_newline : (l : List ℕ) (ls : List (List ℕ)) → (text : List ℕ) × (ended (l ∷ ls) ≡ text ++ (10 ∷ []))
last_newline l [] = (l, refl)
last_newline l (m ∷ ls) =
    let more = last_newline m ls in
    (l ++ (10 ∷ more.0), ap (λ (x : List ℕ). l ++ (10 ∷ x)) more.1 ∙ sym (append_assoc l (10 ∷ more.0) (10 ∷ [])))

lines_open : (text l : List ℕ) (ls : List (List ℕ)) → AllByRecursion Whole (l ∷ ls) → text ++ (10 ∷ []) ≡ ended (l ∷ ls) → lines text ≡ l ∷ ls
unfolding last_newline
lines_open text l [] whole e = ap lines (append_cancel_right text l (10 ∷ []) e) ∙ line_alone l whole.0
lines_open text l (m ∷ ls) whole e =
    let more = last_newline m ls in
    let same = append_cancel_right text (l ++ (10 ∷ more.0)) (10 ∷ []) (e ∙ (last_newline l (m ∷ ls)).1) in
    ap lines same ∙ line_first l more.0 whole.0.1 ∙ ap (λ (x : List (List ℕ)). l ∷ x) (lines_open more.0 m ls whole.1 (sym more.1))

pub all_free : (ls : List (List ℕ)) → AllByRecursion Whole ls → AllByRecursion (Free 10) ls
all_free [] whole = tt
all_free (l ∷ ls) whole = (whole.0.1, all_free ls whole.1)

pub lines_laid : (text l : List ℕ) (ls : List (List ℕ)) → AllByRecursion Whole (l ∷ ls) → Laid text (l ∷ ls) → lines text ≡ l ∷ ls
lines_laid text l ls whole laid =
    ⊎_elim (λ e. ap lines (e ∙ sym (append-nil (ended (l ∷ ls)))) ∙ lines-ended (l ∷ ls) [] (all_free (l ∷ ls) whole) ∙ append-nil (l ∷ ls)) (lines_open text l ls whole) laid

-- the first line and the rest of a text that has lines
opened : (text l : List ℕ) (ls : List (List ℕ)) → lines text ≡ l ∷ ls → (0 < length text) × (l ≡ before_first (λ b. b == 10) text) × (lines (after_first (λ b. b == 10) text) ≡ ls)
opened [] l ls e = absurd (cc)
opened (b ∷ bs) l ls e =
    let step = lines_step (b ∷ bs) (omega arith) in
    (omega arith, cc, cc)

pub no_lines : (text : List ℕ) → lines text ≡ [] → text ≡ []
no_lines [] e = refl
no_lines (b ∷ bs) e = let step = lines_step (b ∷ bs) (omega arith) in absurd (cc)

pub laid_lines : (ls : List (List ℕ)) (text : List ℕ) → lines text ≡ ls → Laid text ls
laid_lines [] text e = inl (no_lines text e)
laid_lines (l ∷ ls) text e =
    let parts = opened text l ls e in
    let first = parts.1 in
    let more = laid_lines ls (after_first (λ b. b == 10) text) parts.2 in
    ⊎_elim
    (λ whole. let none : ls ≡ [] = sym parts.2 ∙ ap lines whole.1 in inr (ap (λ (x : List ℕ). x ++ (10 ∷ [])) (whole.0 ∙ sym first) ∙ ap (λ (x : List (List ℕ)). l ++ (10 ∷ ended x)) (sym none)))
    (λ split.
    let same : text ≡ l ++ (10 ∷ after_first (λ b. b == 10) text) = split ∙ ap (λ (x : List ℕ). x ++ (10 ∷ after_first (λ b. b == 10) text)) (sym first) in
    ⊎_elim
    (λ rest. inl (same ∙ ap (λ (x : List ℕ). l ++ (10 ∷ x)) rest))
    (λ rest. inr (ap (λ (x : List ℕ). x ++ (10 ∷ [])) same ∙ append_assoc l (10 ∷ after_first (λ b. b == 10) text) (10 ∷ []) ∙ ap (λ (x : List ℕ). l ++ (10 ∷ x)) rest))
    more)
    (rejoined 10 text)

-- where a line stands in a text, after the lines before it
pub record Stands (text : List ℕ) (front : List (List ℕ)) (line : List ℕ) : Type 0 where
  pub rest : List ℕ
  pub laid : text ≡ ended front ++ (line ++ rest)
  pub there : 0 < length (line ++ rest)
  pub single : Free 10 line
  pub ends : Ends rest

pub stands : (front : List (List ℕ)) (line : List ℕ) (more : List (List ℕ)) (text : List ℕ) → lines text ≡ front ++ (line ∷ more) → Stands text front line
stands [] line more text e =
    let parts = opened text line more e in
    let first = parts.1 in
    let single = subst (Free 10) (sym first) (before_free 10 text) in
    let at : (rest : List ℕ) → text ≡ before_first (λ b. b == 10) text ++ rest → Ends rest → Stands text [] line = λ rest same ends.
    let laid : text ≡ line ++ rest = same ∙ ap (λ (x : List ℕ). x ++ rest) (sym first) in
    record { rest = rest; laid = laid; there = subst (λ (x : List ℕ). 0 < length x) laid parts.0; single = single; ends = ends } in
    ⊎_elim (λ whole. at [] (whole.0 ∙ sym (append-nil (before_first (λ b. b == 10) text))) tt) (λ split. at (10 ∷ after_first (λ b. b == 10) text) split refl) (rejoined 10 text)
stands (l ∷ front) line more text e =
    let parts = opened text l (front ++ (line ∷ more)) e in
    let later = stands front line more (after_first (λ b. b == 10) text) parts.2 in
    ⊎_elim
    (λ whole. let none = ap length (sym later.laid ∙ whole.1) in absurd (omega (arith, later.there, none, length-append (ended front) (line ++ later.rest))))
    (λ split. record {
      rest = later.rest;
      laid = split ∙ (λ i. sym parts.1 i ++ (10 ∷ later.laid i)) ∙ sym (append_assoc l (10 ∷ ended front) (line ++ later.rest));
      there = later.there;
      single = later.single;
      ends = later.ends;
    })
    (rejoined 10 text)

-- and back
pub lines_stand : (text : List ℕ) (front : List (List ℕ)) (line rest : List ℕ) → text ≡ ended front ++ (line ++ rest) → AllByRecursion (Free 10) front → 0 < length (line ++ rest) → Free 10 line → Ends rest → (more : List (List ℕ)) × (lines text ≡ front ++ (line ∷ more))
lines_stand text front line [] laid free there single ends =
    let whole : Whole line = (omega (arith, length-append line [], there), single) in
    ([], ap lines (laid ∙ ap (λ (x : List ℕ). ended front ++ x) (append-nil line)) ∙ lines-ended front line free ∙ ap (λ (x : List (List ℕ)). front ++ x) (line_alone line whole))
lines_stand text front line (b ∷ rest) laid free there single ends =
    let same : text ≡ ended front ++ (line ++ (10 ∷ rest)) = laid ∙ ap (λ (x : ℕ). ended front ++ (line ++ (x ∷ rest))) ends in
    (lines rest, ap lines same ∙ lines-ended front (line ++ (10 ∷ rest)) free ∙ ap (λ (x : List (List ℕ)). front ++ x) (line_first line rest single))
