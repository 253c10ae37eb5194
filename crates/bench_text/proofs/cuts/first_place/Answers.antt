-- The first mark stands after the front that is cut off.
use Rattle.std.proofs.Common.{◌==◌, ◌∙◌, length, nat_lt, ap, sym, rules, position}
use Rattle.std.specs.Bool.{then_some}
use Rattle.std.proofs.lemmas.Fn.{always_returns_same}
use Rattle.bench_text.proofs.FirstPlace.{place_after_front}
use Rattle.bench_text.proofs.cuts.first_place.Goals as goal

pub returns : goal.returns
returns c =
    let front = c.in_ok-front.front.now in
    let steps = c.in_ok-front.ensures.steps in
    c.then_some.ensures
    ∙ ap (λ xs. then_some (nat_lt (length front) (length xs)) (length front)) (sym c.split.ensures.rest)
    ∙ place_after_front (λ b. b == c.args.mark) c.split.result.rest.now front _ _ steps.1 (steps.2 (λ b. b == c.args.mark) (always_returns_same _ _ _ (λ a r f' k. (search rules, search rules)))).1
    ∙ ap (position (λ b. b == c.args.mark)) c.split.ensures.rest
