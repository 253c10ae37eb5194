-- Codes whose verdict is worked out. Assumes nothing.
use Rattle.std.specs.Prelude.{◌≡◌, ℕ, List, [], ◌∷◌, ◌++◌}
use Rattle.code.specs.Verdict.{verdict}
use Rattle.records.specs.Refusals.{granted, refused}

-- one literal record that puts on place 1
abbrev pub literal_to_place_1 : List ℕ
literal_to_place_1 = 2 ∷ 1 ∷ 0 ∷ 0 ∷ 0 ∷ 0 ∷ 0 ∷ 0 ∷ 1 ∷ 0 ∷ 0 ∷ 0 ∷ 0 ∷ 0 ∷ 0 ∷ 0 ∷ []

-- the sum of two inputs, squared: four indexed records
abbrev pub square_of_sum : List ℕ
square_of_sum =
    (1 ∷ 1 ∷ 0 ∷ 0 ∷ 0 ∷ 0 ∷ 0 ∷ 0 ∷ 0 ∷ 0 ∷ 0 ∷ 0 ∷ 0 ∷ 0 ∷ 0 ∷ 0 ∷ [])
    ++ ((1 ∷ 1 ∷ 1 ∷ 0 ∷ 1 ∷ 0 ∷ 0 ∷ 0 ∷ 1 ∷ 0 ∷ 0 ∷ 0 ∷ 0 ∷ 0 ∷ 0 ∷ 0 ∷ [])
    ++ ((4 ∷ 2 ∷ 2 ∷ 0 ∷ 0 ∷ 0 ∷ 0 ∷ 0 ∷ 0 ∷ 0 ∷ 1 ∷ 0 ∷ 0 ∷ 0 ∷ 0 ∷ 0 ∷ [])
    ++ (6 ∷ 1 ∷ 3 ∷ 0 ∷ 0 ∷ 0 ∷ 0 ∷ 0 ∷ 0 ∷ 0 ∷ 0 ∷ 0 ∷ 0 ∷ 0 ∷ 0 ∷ 0 ∷ [])))

pub record WorkedVerdicts : Type 0 where
  pub leaves_place_1_full : verdict literal_to_place_1 2 1 ≡ refused 25 1 0
  pub place_1_is_missing : verdict literal_to_place_1 1 1 ≡ refused 24 0 0
  pub no_code_no_result : verdict [] 0 0 ≡ granted tt
  pub no_code_one_result : verdict [] 0 1 ≡ refused 25 0 0
  pub square_of_sum_in_two_places : verdict square_of_sum 2 1 ≡ granted tt
  pub square_of_sum_in_one_place : verdict square_of_sum 1 1 ≡ refused 24 1 0
