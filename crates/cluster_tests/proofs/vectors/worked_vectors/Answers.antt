use Rattle.std.proofs.Common.{refl}
use Rattle.cluster_tests.proofs.vectors.worked_vectors.Goals as goal

pub returns : goal.returns
returns c = record { empty = refl; one_pair = refl; one_word = refl; minus_one = refl; two_parts = refl; two_keys = refl }
