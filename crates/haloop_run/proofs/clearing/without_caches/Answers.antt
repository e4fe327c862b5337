use Rattle.std.proofs.Common.{false, subst, sym}
use Rattle.function_meaning.specs.Meanings as meanings
use Rattle.hal_base.specs.Shapes.{IsWellFormed}
use Rattle.hal_base.specs.declared.shape.Shape.{Shape}
use Rattle.loop_program.proofs.FlaggedShapes.{still_well_formed}
use Rattle.plain_job.specs.Fit.{FunctionsFit}
use Rattle.run_laws.specs.WithoutLoss.{HasNoCaches}
use Rattle.haloop_run.specs.Clearing.{built}
use Rattle.haloop_run.proofs.ClearedShapes.{fit_cleared, no_caches}
use Rattle.haloop_run.proofs.clearing.without_caches.Goals as goal

pub returns-clause-well_formed : goal.returns-clause-well_formed
returns-clause-well_formed c = subst IsWellFormed (sym c.in_ok-shape.ensures) (still_well_formed built false c.new-typed.result.shape c.new-typed.ensures.well_formed)

pub returns-clause-fits : goal.returns-clause-fits
returns-clause-fits c =
    let functions = c.new-typed.result.typed in
    let uses = c.new-typed.result.uses in
    let shape = c.new-typed.result.shape in
    subst (λ (s : Shape). FunctionsFit (meanings.meaning_of functions uses s.parts) s) (sym c.in_ok-shape.ensures) (fit_cleared (meanings.meaning_of functions uses shape.parts) shape c.new-typed.ensures.fits)

pub returns-clause-caches : goal.returns-clause-caches
returns-clause-caches c = subst HasNoCaches (sym c.in_ok-shape.ensures) (no_caches c.new-typed.result.shape)
