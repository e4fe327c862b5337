use Rattle.haloop_run.proofs.ClearedShapes.{all_cleared}
use Rattle.haloop_run.proofs.clearing.clear_caches.Goals as goal

pub returns : goal.returns
returns c = all_cleared c.args.shape c.in_ok-steps.steps c.in_ok-steps.ensures
