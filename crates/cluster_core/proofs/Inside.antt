-- A cluster from its fields.
use Rattle.run_model.specs.State.{PlainCluster, Setup}
use Rattle.cluster_core.specs.States.{Kept, Seen, plain_of, seen_of}
use Rattle.cluster_core.specs.declared.state.State.TheInside.{Inside}

abbrev pub kept_in : Inside → Kept
kept_in i = record { round = i.round; table = i.table; values = i.values.items; running = i.running.items; failures = i.failures.items; spent = i.spent; journal = i.journal }

abbrev pub setup_in : Inside → Setup
setup_in i = record { shape = i.shape; schedule = i.schedule }

abbrev pub plain_in : Inside → PlainCluster
plain_in i = plain_of i.schedule (kept_in i)

abbrev pub seen_in : Inside → Seen
seen_in i = seen_of i.shape i.schedule (kept_in i)
