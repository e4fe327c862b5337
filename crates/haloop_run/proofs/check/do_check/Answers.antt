use Rattle.std.proofs.Common.{Err, Ok}
use Rattle.haloop_run.proofs.check.do_check.Goals as goal

pub returns-in-Ok-clause-checked : goal.returns-in-Ok-clause-checked
returns-in-Ok-clause-checked g c = λ words ask. record {
  name = c.args.name.now;
  ask = ask;
  done = Ok c.in-Ok.text.items;
  came = (c.in-Ok.ensures.found, c.in-Ok.ensures.only);
  kept = c.verdicts_of.ensures.reads.1;
  said = rw (← c.as_slice.ensures.value) c.tell.ensures.said;
}

pub returns-in-Err-clause-checked : goal.returns-in-Err-clause-checked
returns-in-Err-clause-checked g c = λ words ask. record {
  name = c.args.name.now;
  ask = ask;
  done = Err c.in-Err.fault;
  came = (c.in-Err.ensures.stops, c.in-Err.ensures.sort);
  kept = c.verdicts_of.ensures.reads.1;
  said = c.say_fault.ensures.said;
}
