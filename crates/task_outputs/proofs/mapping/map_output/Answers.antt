use Rattle.std.proofs.Common.{◌≡◌, ap, ◌∙◌, arith}
use Rattle.std.specs.Option.{option_map}
use Rattle.hal_base.specs.declared.shape.Source.{Source}
use Rattle.task_outputs.proofs.Fitting.{spill_fits}
use Rattle.task_outputs.proofs.Streams.{as_many, some_same}
use Rattle.task_outputs.proofs.mapping.map_output.Goals as goal

pub encode_spill-requires-clause-few : goal.encode_spill-requires-clause-few
encode_spill-requires-clause-few g c =
    let m = g.F.Functions.meaning c.args.functions.now in
    omega (arith, as_many m c.args.round c.args.step c.args.source c.args.rows.now c.args.shape.now.parts c.in_ok-parts.parts c.in_ok-parts.ensures.parts, c.requires.shape.parts.1)

pub encode_spill-requires-clause-fits : goal.encode_spill-requires-clause-fits
encode_spill-requires-clause-fits g c =
    let m = g.F.Functions.meaning c.args.functions.now in
    let given = c.requires.rows in
    let same : c.in-Some.schema.now ≡ given.source.stream = some_same c.in-Some.schema.now given.source.stream (c.in-Some.ensures ∙ ap (option_map (λ (it : Source). it.stream)) given.is_there) in
    rw (same, c.in_ok-parts.ensures.parts) (spill_fits m c.args.shape.now c.args.round c.args.step c.args.source c.args.rows.now c.requires.fits c.requires.round given)
