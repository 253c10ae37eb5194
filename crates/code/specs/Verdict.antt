-- The checker's answer: which rule a code breaks first, and at which record. Assumes nothing.
use Rattle.std.specs.Prelude.{ℕ, zero, suc, ◌/◌, ◌%◌, min, Bool, true, false, if◌then◌else◌, ◌&&◌, List, [], ◌∷◌, length, take, replicate, find, is_none, Some, None, Option, Ok, Err, Result, ◌==◌, nat_le, nat_lt, slice_index_or, slice_set}
use Rattle.std.specs.Bool.{beq, then_some}
use Rattle.std.specs.List.{range_with_len}
use Rattle.std.specs.Option.{option_and_then}
use Rattle.code.specs.Bytes.{byte_at}
use Rattle.code.specs.Layout.{is_rear, record_at}
use Rattle.code.specs.Marks.{front_full, full_count, just_front, passes}
use Rattle.code.specs.declared.record.Record.{Record}
use Rattle.code.specs.declared.target.Target.{Target}
use Rattle.code.specs.declared.target.Target.TheVariants.{Rear, At}
use Rattle.records.specs.Operations.{arity}
use Rattle.records.specs.Refusals.{Answer, fault_number, granted, if_granted, reason_number, refused}
use Rattle.records.specs.declared.reason.Reason.{Reason}

-- ---- well-formed code

-- code is simple if byte 1 of record 0 says so
abbrev pub is_simple : List ℕ → Bool
is_simple code = byte_at code 1 == 255

-- record i, if it is there, laid out well and of the kind of record 0
abbrev pub lawful_at : List ℕ → ℕ → Option Record
lawful_at code i = option_and_then (λ r. then_some (beq (is_rear r.target) (is_simple code)) r) (record_at code i)

-- the first of n records that is not lawful
abbrev pub first_unlawful : List ℕ → ℕ → Option ℕ
first_unlawful code n = find (λ i. is_none (lawful_at code i)) (range_with_len 0 n)

-- how many whole records a code has
abbrev pub record_count : List ℕ → ℕ
record_count code = length code / 16

-- nothing is left over after the last record, and there are not too many
abbrev pub whole_records : List ℕ → Bool
whole_records code = length code % 16 == 0 && nat_le (record_count code) 1024

-- the answer, by the first record that is not lawful
abbrev pub all_lawful : Option ℕ → Answer (Unit {0})
all_lawful None = granted tt
all_lawful (Some i) = refused 21 i 0

-- the tests that look at no place: length, result count, each record by itself
abbrev pub well_formed : List ℕ → ℕ → Answer (Unit {0})
well_formed code results =
    if whole_records code then
    (if nat_le results 16 then all_lawful (first_unlawful code (record_count code)) else refused 16 0 0)
    else refused 20 0 0

-- ---- the places, record by record

-- the places that a record puts on, by the marks once its operands are passed
abbrev pub places_put : Target → List Bool → List ℕ
places_put Rear ms = full_count ms ∷ []
places_put (At p) ms = take p.count p.fields

-- record i puts on these places, one after another
abbrev pub puts : ℕ → List ℕ → List Bool → Answer (List Bool)
puts i [] ms = granted ms
puts i (k ∷ ks) ms =
    if nat_lt k (length ms) then
    (if slice_index_or ms k false then refused 23 i 0 else puts i ks (slice_set ms k true))
    else refused 24 i 0

-- record i takes its operands, passes them and puts
abbrev pub step_marks : ℕ → Record → List Bool → Answer (List Bool)
step_marks i r ms =
    if front_full (arity r.operation) ms then
    puts i (places_put r.target (passes (arity r.operation) ms)) (passes (arity r.operation) ms)
    else refused 22 i 0

-- the same of a record that may not be lawful
abbrev pub step_at : ℕ → Option Record → List Bool → Answer (List Bool)
step_at i None ms = refused 21 i 0
step_at i (Some r) ms = step_marks i r ms

-- the marks after the first n records, from P empty places
abbrev pub marks_after : List ℕ → ℕ → ℕ → Answer (List Bool)
marks_after code P zero = granted (replicate P false)
marks_after code P (suc n) = if_granted (marks_after code P n) (step_at n (lawful_at code n))

-- the end leaves just the results
abbrev pub ending : ℕ → ℕ → List Bool → Answer (Unit {0})
ending m results ms = if just_front results ms then granted tt else refused 25 m 0

-- more than 4,096 places count as 4,096
abbrev pub verdict : List ℕ → ℕ → ℕ → Answer (Unit {0})
verdict code P results =
    if_granted (well_formed code results) (λ _.
    if_granted (marks_after code (min P 4096) (record_count code)) (ending (record_count code) results))

-- what a call leaves that a reason refuses, told of record i
abbrev pub outcome_at : {X Y : Type 0} → ℕ → Result X Reason → Y → Answer Y
outcome_at i (Ok x) y = granted y
outcome_at i (Err r) y = refused (reason_number r) i (fault_number r)
