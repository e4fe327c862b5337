use Rattle.std.proofs.Common.{◌+◌, refl}
use Rattle.std.proofs.lemmas.List.{length-set}
use Rattle.memory_run.proofs.Keeping.{one_kept}
use Rattle.memory_run.proofs.kept.keep_in_step.Goals as goal

pub sources-preserved : goal.sources-preserved
sources-preserved g c =
    let m = g.F.Functions.meaning c.args.functions.now in
    let n = c.args.table.now.shape.now.parts in
    let after = c.keep_source.new.input in
    record {
      few = rw (length-set c.sources.inputs c.sources.source after) c.sources.invariant.few;
      serve = λ rows left i sources here h. one_kept m n c.args.step c.sources.source (c.sources.source + 1) c.sources.inputs c.index-inputs-source.result after c.sources-test.true refl rows left i sources (λ source. c.in_ok-keep_source.ensures rows left i source here) (c.sources.invariant.serve rows left i sources here h);
    }
