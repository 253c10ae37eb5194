use Rattle.std.proofs.Common.{nat_lt, rules}
use Rattle.std.proofs.lemmas.List.Sorted.{answers_always}
use Rattle.code.proofs.Ascents.{ascending_answer}
use Rattle.code.proofs.places.ascends.Goals as goal

pub returns : goal.returns
returns c = ascending_answer _ _ (c.is_sorted_by.ensures.cases nat_lt (answers_always _ _ _ (search rules)))
