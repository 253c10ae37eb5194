-- What `read_bench` answers is so, and the lines after the first fit the buffer.
use Rattle.std.proofs.Common.{arith, rules}
use Rattle.std.proofs.lemmas.Grind.{common_steps}
use Rattle.bench_text.proofs.TextLaw.{judged}
use Rattle.bench_text.proofs.LineByLine.{lines_fit}
use Rattle.bench_text.proofs.texts.read_bench.Goals as goal

pub returns-in_err-header-clause-judges_the_text : goal.returns-in_err-header-clause-judges_the_text
returns-in_err-header-clause-judges_the_text c = judged c.args.text.now c.args.code.now c.args.code.now _ (search rules) (search rules)

pub read_records-requires : goal.read_records-requires
read_records-requires c = grind (arith, common_steps, lines_fit c.args.text.now)

pub returns-clause-judges_the_text : goal.returns-clause-judges_the_text
returns-clause-judges_the_text c = judged c.args.text.now c.args.code.now _ _ (search rules) (search rules)
