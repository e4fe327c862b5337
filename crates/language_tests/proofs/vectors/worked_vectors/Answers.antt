use Rattle.std.proofs.Common.{refl}
use Rattle.operations.specs.Operations.{operation_named}
use Rattle.language_tests.proofs.vectors.worked_vectors.Goals as goal

pub returns : goal.returns
unfolding operation_named
returns c = record {
  sum_at_the_end = refl;
  difference_at_the_end = refl;
  product_at_the_end = refl;
  quotient = refl;
  quotient_at_the_end = refl;
  quotient_by_0 = refl;
  remainder = refl;
  remainder_by_a_negative = refl;
  part_of_a_text = refl;
  count_is_right = refl;
  counted = refl;
}
