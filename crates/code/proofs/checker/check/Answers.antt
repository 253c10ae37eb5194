use Rattle.std.proofs.Common.{min, ap, ◌∙◌, arith}
use Rattle.code.proofs.Verdicts.{marks_on, stopped_at}
use Rattle.records.specs.Refusals.{answer, refusal_answer}
use Rattle.std.proofs.lemmas.Result.{err_from_is_err_and}
use Rattle.code.proofs.checker.check.Goals as goal

pub returns-in_err-step_at : goal.returns-in_err-step_at
returns-in_err-step_at c =
    let p = err_from_is_err_and c.from_residual-in_err-step_at.result c.from_residual-in_err-step_at.ensures.1 in
    let stopped = stopped_at c.args.code.now c.args.places c.args.results c.loop-index.index _ _ _ c.loop-index.marks c.in_ok-well_formed.ensures (omega arith) c.loop-index.invariant c.in_err-step_at.ensures in
    record { is_the_verdict = ap answer p.1 ∙ ap refusal_answer p.2 ∙ stopped }

pub loop-index-preserved : goal.loop-index-preserved
loop-index-preserved c =
    marks_on c.args.code.now (min c.args.places 4096) c.loop-index.index c.loop-index.marks _ c.loop-index.invariant c.in_ok-step_at.ensures
