use Rattle.std.proofs.Common.{refl, ◌∙◌, rules}
use Rattle.arithmetic.proofs.Exact.{exact_found}
use Rattle.records.specs.Faults.{out_of_range}
use Rattle.arithmetic.proofs.Faults.{or_fault}
use Rattle.arithmetic.proofs.whole_numbers.in_range.Goals as goal

pub returns : goal.returns
returns c z found =
    c.ok_or.ensures.value ∙ (or_fault _ _ out_of_range refl ∙ exact_found _ _ _ (λ n x fits made. search rules) z found c.map.ensures.cases)
