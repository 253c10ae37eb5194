-- The operations of a node: the number of each, and how many operands it takes. Assumes nothing.
use Rattle.std.specs.Prelude.{◌≡◌, ℕ, if◌then◌else◌, Some, None, Option, Result, MatchResult, ◌==◌, ◌≢◌}
use Rattle.std.specs.Result.{result_ok}
use Rattle.records.specs.declared.operation.Operation.{Operation}
use Rattle.records.specs.declared.operation.Operation.TheVariants.{Input, Literal, Negate, Add, Subtract, Multiply, Divide}
use Rattle.records.specs.declared.operation.UnknownOperation.{UnknownOperation}

abbrev pub operation_number : Operation → ℕ
operation_number Input = 1
operation_number Literal = 2
operation_number Negate = 3
operation_number Add = 4
operation_number Subtract = 5
operation_number Multiply = 6
operation_number Divide = 7

-- the operation of a number, if it has one
abbrev pub operation : ℕ → Option Operation
operation n =
    if n == 1 then Some Input
    else (if n == 2 then Some Literal
    else (if n == 3 then Some Negate
    else (if n == 4 then Some Add
    else (if n == 5 then Some Subtract
    else (if n == 6 then Some Multiply
    else (if n == 7 then Some Divide else None))))))

-- what a number is read as: the operation that has it, or an error with the number that none has
pub record ReadsOperation (number : ℕ) (r : Result Operation UnknownOperation) : Type 0 where
  pub value : result_ok r ≡ operation number
  pub has_that_number : MatchResult r (λ o. operation_number o ≡ number) (λ e. (e.0 ≡ number) × ((o : Operation) → operation_number o ≢ number))

abbrev pub arity : Operation → ℕ
arity Input = 0
arity Literal = 0
arity Negate = 1
arity Add = 2
arity Subtract = 2
arity Multiply = 2
arity Divide = 2
