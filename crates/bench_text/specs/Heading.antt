-- How the first line is read.
use Rattle.std.specs.Prelude.{ℕ, List, Some, Option, ◌==◌}
use Rattle.std.specs.List.{before_first, after_first}
use Rattle.bench_text.specs.declared.headings.Header.{Header}
use Rattle.bench_text.specs.Decimal.{decimal_number}
use Rattle.bench_text.specs.Steps.{◌>>=◌}

-- a number, a space and a number
abbrev pub header_of : List ℕ → Option Header
header_of line = do
  p ← decimal_number (before_first (λ b. b == 32) line)
  r ← decimal_number (after_first (λ b. b == 32) line)
  Some (record { places = p; results = r })
