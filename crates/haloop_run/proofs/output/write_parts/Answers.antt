use Rattle.std.proofs.Common.{arith, List, subst}
use Rattle.std.proofs.lemmas.Result.{err_from_is_err_and}
use Rattle.hal_base.specs.declared.record.Record.{Record}
use Rattle.hal_outside.specs.Calls.{OnTold}
use Rattle.haloop_run.specs.steps.Outputs.{WrittenPart}
use Rattle.haloop_run.proofs.OutputLaws.{written_more, written_part}
use Rattle.haloop_run.proofs.output.write_parts.Goals as goal

pub returns-in_err-write_part-clause-partly : goal.returns-in_err-write_part-clause-partly
returns-in_err-write_part-clause-partly g c =
    let files = g.F.Files in
    let r = err_from_is_err_and c.from_residual.result c.from_residual.ensures.1 in
    rw r.1
    (subst (λ (parts : List (List Record)). OnTold (WrittenPart c.args.out.now parts) (files.told c.args.files.now) (files.told c.write_part.new.files)) c.as_slice-rows-items.ensures
    (written_part c.args.out.now c.as_slice-rows-items.result.now c.parts.number c.rows-item.result c.parts-test.true c.rows-item.is
    (files.told c.args.files.now) (files.told c.parts.files) (files.told c.write_part.new.files) c.parts.invariant.1 c.in_err-write_part.ensures.partly))

pub parts-preserved : goal.parts-preserved
parts-preserved g c =
    let files = g.F.Files in
    let so_far = c.parts.invariant in (
      (omega (arith, so_far.0.0, c.write_part.ensures.counts.0), omega (arith, so_far.0.1, c.write_part.ensures.counts.1)),
      written_more c.args.out.now c.as_slice-rows-items.result.now c.parts.number c.rows-item.result c.parts-test.true c.rows-item.is
          (files.told c.args.files.now) (files.told c.parts.files) (files.told c.write_part.new.files) so_far.1 c.in_ok-write_part.ensures.written,
    )
