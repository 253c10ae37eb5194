use Rattle.std.proofs.Common.{refl}
use Rattle.bench.proofs.examples.literal_to_place_1.Goals as goal

pub returns : goal.returns
returns c =
    record {
      is_the_verdict = c.one_literal.ensures;
      worked_verdicts = record {
        leaves_place_1_full = refl;
        place_1_is_missing = refl;
        no_code_no_result = refl;
        no_code_one_result = refl;
        square_of_sum_in_two_places = refl;
        square_of_sum_in_one_place = refl;
      };
    }
