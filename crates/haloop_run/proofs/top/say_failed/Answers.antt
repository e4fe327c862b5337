use Rattle.haloop_run.proofs.top.say_failed.Goals as goal

pub returns-in-Device-clause-said : goal.returns-in-Device-clause-said
returns-in-Device-clause-said g c = rw c.in-Device.is c.tell.ensures.said

pub returns-in-Memory-clause-said : goal.returns-in-Memory-clause-said
returns-in-Memory-clause-said g c = rw c.in-Memory.is c.tell-in-Memory.ensures.said
