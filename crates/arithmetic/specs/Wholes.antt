-- Whole numbers by their numbers, packed and unpacked. Assumes nothing.
use Rattle.std.specs.Prelude.{◌≡◌}
use Rattle.std.proofs.Common.{arith}
use Rattle.std.specs.Int.{w32, cast_unsigned}
use Rattle.arithmetic.specs.Ranges.{is_whole, same_made}
use Rattle.arithmetic.specs.WholeMeaning.{low_whole}
use Rattle.arithmetic.specs.declared.whole.Whole.{Whole}
use Rattle.std.proofs.lemmas.Int.{ints}
use Rattle.std.proofs.lemmas.Bool.Decides.{nat_tests}

pub same_whole : (x y : Whole) → x.number ≡ y.number → x ≡ y
same_whole x y = same_made is_whole (λ z within. record { number = z; within = within }) x.number y.number x.within y.within

pub reads_back : (v : Whole) → low_whole (cast_unsigned w32 v.number) ≡ v
reads_back v = same_whole _ v (grind (arith, ints, nat_tests))
