use Rattle.std.proofs.Common.{◌≡◌, ap, ◌∙◌}
use Rattle.std.specs.Option.{option_map}
use Rattle.hal_base.specs.declared.shape.Step.{Step}
use Rattle.task_outputs.proofs.Fitting.{job_fits}
use Rattle.task_outputs.proofs.Streams.{some_same}
use Rattle.task_outputs.proofs.reducing.reduce_output.Goals as goal

pub encode-requires : goal.encode-requires
encode-requires g c =
    let m = g.F.Functions.meaning c.args.functions.now in
    let given = c.requires.inputs in
    let same : c.in-Some.schema.now ≡ given.step.out = some_same c.in-Some.schema.now given.step.out (c.in-Some.ensures ∙ ap (option_map (λ (it : Step). it.out)) given.is_there) in
    rw (same, c.in_ok-rows.ensures) (job_fits m c.args.shape.now c.args.round c.args.step c.args.inputs.items c.requires.fits c.requires.round given)
