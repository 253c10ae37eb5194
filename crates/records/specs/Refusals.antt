-- What a refusal says: its number, its place and the fault that it carries. Assumes nothing.
use Rattle.std.specs.Prelude.{ℕ, if◌then◌else◌, List, [], ◌++◌, Some, None, Option, Ok, Err, codes, decimal, Result, ◌==◌}
use Rattle.std.specs.Option.{option_map_or}
use Rattle.records.specs.declared.fault.Fault.{Fault}
use Rattle.records.specs.declared.reason.Reason.{Reason}
use Rattle.records.specs.declared.reason.Reason.TheVariants.{CardTooLong, NoToken, TokenOutOfPlace, NumberTooLarge, NameTooLong, NameNotKnown, NameGivenAgain, TooDeep, NoResult, TooManyResults, TableTooShort, NodeCount, OperationUnknown, OperandNotInTable, InputOutOfRange, ResultList, Cycle, TooManyUses, CodeBufferTooShort, CodeLength, RecordMalformed, PlaceEmpty, PlaceFull, PlaceMissing, NotJustResults, WrongState, InputMissing, QueueNotEmpty, Faulted, ResultBufferTooShort}
use Rattle.records.specs.declared.refusal.Refusal.{Refusal}

-- the number of a reason
abbrev pub reason_number : Reason → ℕ
reason_number CardTooLong = 1
reason_number NoToken = 2
reason_number TokenOutOfPlace = 3
reason_number NumberTooLarge = 4
reason_number NameTooLong = 5
reason_number NameNotKnown = 6
reason_number NameGivenAgain = 7
reason_number TooDeep = 8
reason_number NoResult = 9
reason_number TooManyResults = 10
reason_number TableTooShort = 11
reason_number NodeCount = 12
reason_number OperationUnknown = 13
reason_number OperandNotInTable = 14
reason_number InputOutOfRange = 15
reason_number ResultList = 16
reason_number Cycle = 17
reason_number TooManyUses = 18
reason_number CodeBufferTooShort = 19
reason_number CodeLength = 20
reason_number RecordMalformed = 21
reason_number PlaceEmpty = 22
reason_number PlaceFull = 23
reason_number PlaceMissing = 24
reason_number NotJustResults = 25
reason_number WrongState = 26
reason_number InputMissing = 27
reason_number QueueNotEmpty = 28
reason_number (Faulted f) = 29
reason_number ResultBufferTooShort = 30

-- the fault that a reason carries
abbrev pub fault_of : Reason → Option Fault
fault_of (Faulted f) = Some f
fault_of r = None

-- its number, 0 for none
abbrev pub fault_number : Reason → ℕ
fault_number r = option_map_or (λ f. f.number) (fault_of r) 0

abbrev pub reason_numbers : Reason → ℕ × ℕ
reason_numbers r = (reason_number r, fault_number r)

-- a refusal in numbers: of the reason, of the place and of the fault, 0 for none
pub record RefusalNumbers : Type 0 where
  pub number : ℕ
  pub place : ℕ
  pub fault : ℕ

-- what a call answers, in numbers
abbrev pub Answer : Type 0 → Type 0
Answer X = Result X RefusalNumbers

abbrev pub granted : {X : Type 0} → X → Answer X
granted x = Ok x

abbrev pub refused : {X : Type 0} → (number place fault : ℕ) → Answer X
refused number place fault = Err record { number = number; place = place; fault = fault }

abbrev pub refusal_answer : {X : Type 0} → Refusal → Answer X
refusal_answer r = refused (reason_number r.reason) r.place (fault_number r.reason)

abbrev pub answer : {X : Type 0} → Result X Refusal → Answer X
answer (Ok x) = granted x
answer (Err r) = refusal_answer r

-- the same of a call that changes a value in place, by what that value is after it
abbrev pub outcome : {X Y : Type 0} → Result X Refusal → Y → Answer Y
outcome (Ok x) y = granted y
outcome (Err r) y = refusal_answer r

-- a call that goes on from what another granted, and is refused as that was
abbrev pub if_granted : {X Y : Type 0} → Answer X → (X → Answer Y) → Answer Y
if_granted (Ok x) f = f x
if_granted (Err numbers) f = Err numbers

-- what is printed of a fault's number, 0 for none
abbrev pub fault_text : ℕ → List ℕ
fault_text n = if n == 0 then [] else codes " with fault " ++ decimal n

-- what is printed of a refusal
abbrev pub refusal_text : Refusal → List ℕ
refusal_text r =
    codes "refused " ++ (decimal (reason_number r.reason) ++ (codes " at " ++ (decimal r.place ++ fault_text (fault_number r.reason))))
