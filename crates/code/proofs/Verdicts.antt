-- The checker's answer, one record at a time. Assumes nothing.
use Rattle.std.proofs.Common.{◌≡◌, ℕ, zero, suc, ◌+◌, ◌<◌, ◌≤◌, min, Bool, List, sym, ap, ◌∙◌, ⊎_elim, add-one, arith}
use Rattle.code.specs.Verdict.{ending, lawful_at, marks_after, record_count, step_at, verdict, well_formed}
use Rattle.records.specs.Refusals.{Answer, granted, refused, if_granted}
use Rattle.std.proofs.lemmas.Bool.{cases_eq}

-- what a step keeps once it is so stays so
pub stays : {X : Type 0} (F : ℕ → X) (x : X) → ((k : ℕ) → F k ≡ x → F (suc k) ≡ x) → (n m : ℕ) → n ≤ m → F n ≡ x → F m ≡ x
stays F x step n zero h e = let none : zero ≡ n = omega arith in ap F none ∙ e
stays F x step n (suc m) h e =
    ⊎_elim (λ all. ap F (sym all) ∙ e) (λ less. step m (stays F x step n m (omega arith) e)) (cases_eq n (suc m))

module _ (code : List ℕ) (P : ℕ) where
  pub marks_on : (n : ℕ) (ms : List Bool) (next : Answer (List Bool)) → marks_after code P n ≡ granted ms → next ≡ step_at n (lawful_at code n) ms → marks_after code P (n + 1) ≡ next
  marks_on n ms next before is =
      ap (marks_after code P) (add-one n) ∙ ap (λ a. if_granted a (step_at n (lawful_at code n))) before ∙ sym is

  pub marks_stay : (n m number place fault : ℕ) → n ≤ m → marks_after code P n ≡ refused number place fault → marks_after code P m ≡ refused number place fault
  marks_stay n m number place fault h e =
      stays (marks_after code P) (refused number place fault) (λ k. ap (λ a. if_granted a (step_at k (lawful_at code k)))) n m h e

-- a record that is refused ends the check
pub stopped_at : (code : List ℕ) (P results n number place fault : ℕ) (ms : List Bool) → granted tt ≡ well_formed code results → n < record_count code → marks_after code (min P 4096) n ≡ granted ms → refused number place fault ≡ step_at n (lawful_at code n) ms → refused number place fault ≡ verdict code P results
stopped_at code P results n number place fault ms formed h before is =
    let after = marks_stay code (min P 4096) (n + 1) (record_count code) number place fault (omega arith) (marks_on code (min P 4096) n ms (refused number place fault) before is) in
    sym (ap (λ a. if_granted a (λ _. if_granted (marks_after code (min P 4096) (record_count code)) (ending (record_count code) results))) (sym formed)
    ∙ ap (λ a. if_granted a (ending (record_count code) results)) after)
