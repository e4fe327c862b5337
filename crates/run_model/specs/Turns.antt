-- One turn of the cluster: advance, start, act.
use Rattle.std.specs.Prelude.{Option}
use Rattle.counter_report.specs.declared.journal.EndWord.{EndWord}
use Rattle.run_model.specs.Acts.{act}
use Rattle.run_model.specs.Advance.{Advanced, advance, finished, goes_on}
use Rattle.run_model.specs.Plans.{Plan, gives, ◌>>=◌}
use Rattle.run_model.specs.Start.{start}
use Rattle.run_model.specs.State.{PlainCluster, Setup}

-- what a turn came to: it acted, or the run is finished
pub data Turned : Type 0 where
  acted : PlainCluster → Turned
  ends : PlainCluster → EndWord → Turned

-- behind advance: the run is finished, or tasks start and then an event acts
abbrev pub go_on : Setup → Advanced → Plan Turned
go_on setup (finished c end) = gives (ends c end)
go_on setup (goes_on c) = act setup (start setup c) >>= (λ next. gives (acted next))

-- one turn: advance, start, act. The decision is that of this round, should it be decided: the word with which the loop
-- ends, or none where it goes on
abbrev pub turn : Setup → Option EndWord → PlainCluster → Plan Turned
turn setup decision c = advance setup decision c >>= go_on setup
