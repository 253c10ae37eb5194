-- What an arithmetic is: its values as words, and the answer to each operation. Assumes nothing.
use Rattle.std.specs.Prelude.{ℕ, ℤ, Result}
use Rattle.records.specs.declared.fault.Fault.{Fault}

pub record Meaning (V : Type 0) : Type 0 where
  -- the word of a value, and the value of a word
  pub pack : V → ℕ
  pub unpack : ℕ → V
  -- the answer to a literal's argument, and to the operands, the left one first: a value or a fault
  pub literal : ℤ → Result V Fault
  pub negate : V → Result V Fault
  pub add : V → V → Result V Fault
  pub subtract : V → V → Result V Fault
  pub multiply : V → V → Result V Fault
  pub divide : V → V → Result V Fault
