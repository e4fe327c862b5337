-- What becomes of the cluster where the next round begins.
use Rattle.std.specs.Prelude.{◌+◌, List, [], ◌∷◌, ◌++◌, map}
use Rattle.counter_report.specs.declared.journal.Entry.{Entry}
use Rattle.counter_report.specs.declared.journal.Entry.TheVariants as line
use Rattle.run_model.specs.State.{PlainCluster, noted}
use Rattle.run_model.specs.declared.attempt.Attempt.{Attempt}

-- a line for each attempt that is dropped
abbrev pub lines_of : List Attempt → List Entry
lines_of running = map (λ (a : Attempt). line.Dropped a.task a.node) running

-- the running attempts are dropped
abbrev pub dropped : PlainCluster → PlainCluster
dropped c = record c { running = []; journal = c.journal ++ lines_of c.running }

-- the round is the next one, of whose tests no value is known
abbrev pub in_next : PlainCluster → PlainCluster
in_next c = record c { round = c.round + 1; known = [] }

-- the next round begins, with its line
abbrev pub entered : PlainCluster → PlainCluster
entered c = noted (line.Round (c.round + 1) ∷ []) (in_next c)
