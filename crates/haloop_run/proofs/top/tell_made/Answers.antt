use Rattle.haloop_run.proofs.TopLaws.{said_memory}
use Rattle.haloop_run.proofs.top.tell_made.Goals as goal

pub returns-in-Err-clause-said : goal.returns-in-Err-clause-said
returns-in-Err-clause-said g c = λ line e. said_memory g.O.Sink c.args.out.now c.tell-in-Err.new.out c.tell-in-Err.result c.args.status line c.tell-in-Err.ensures.said
