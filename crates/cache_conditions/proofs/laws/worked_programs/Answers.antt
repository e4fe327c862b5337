use Rattle.std.proofs.Common.{refl}
use Rattle.std.specs.Fmt.{digits}
use Rattle.operations.specs.Operations.{operation_named}
use Rattle.cache_conditions.proofs.laws.worked_programs.Goals as goal

pub returns-clause-texts : goal.returns-clause-texts
unfolding digits operation_named
returns-clause-texts c = record {
  hops = record { right = record { tables = refl; functions = refl }; said = refl };
  counted = record { right = record { tables = refl; functions = refl }; said = refl };
  stamped = record { right = record { tables = refl; functions = refl }; said = refl };
  added_once = record { right = record { tables = refl; functions = refl }; said = refl };
  ranks = record { right = record { tables = refl; functions = refl }; said = refl };
}

pub returns-clause-words : goal.returns-clause-words
unfolding digits operation_named
returns-clause-words c = record {
  parts_change = record { right = record { tables = refl; functions = refl }; said = refl };
  only_mapper = record { right = record { tables = refl; functions = refl }; said = refl };
  all_asked = record { right = record { tables = refl; functions = refl }; said = refl };
  none_asked = record { right = record { tables = refl; functions = refl }; said = refl };
  hop_at_the_end = record { right = record { tables = refl; functions = refl }; said = refl };
  round_in_the_reduce = record { right = record { tables = refl; functions = refl }; said = refl };
  first_parts_change = record { right = record { tables = refl; functions = refl }; said = refl };
  last_parts_change = record { right = record { tables = refl; functions = refl }; said = refl };
}

pub returns-clause-orders : goal.returns-clause-orders
unfolding digits operation_named
returns-clause-orders c = record {
  one_round_and_round = record { right = record { tables = refl; functions = refl }; said = refl };
  map_and_partition = record { right = record { tables = refl; functions = refl }; said = refl };
  map_and_not_asked = record { right = record { tables = refl; functions = refl }; said = refl };
  partition_and_not_asked = record { right = record { tables = refl; functions = refl }; said = refl };
  key_and_partition = record { right = record { tables = refl; functions = refl }; said = refl };
  key_and_not_asked = record { right = record { tables = refl; functions = refl }; said = refl };
}
