-- Operations and their numbers go both ways. Assumes nothing.
use Rattle.std.proofs.Common.{◌≡◌, ℕ, Some, refl, arith}
use Rattle.records.specs.Operations.{operation, operation_number}
use Rattle.records.specs.declared.operation.Operation.{Operation}
use Rattle.records.specs.declared.operation.Operation.TheVariants.{Input, Literal, Negate, Add, Subtract, Multiply, Divide}
use Rattle.std.proofs.lemmas.Bool.Decides.{nat_tests}

pub operation_of_number : (o : Operation) → operation (operation_number o) ≡ Some o
operation_of_number Input = refl
operation_of_number Literal = refl
operation_of_number Negate = refl
operation_of_number Add = refl
operation_of_number Subtract = refl
operation_of_number Multiply = refl
operation_of_number Divide = refl

pub number_of_operation : (n : ℕ) (o : Operation) → operation n ≡ Some o → operation_number o ≡ n
number_of_operation n o found = grind (arith, nat_tests)
