use Rattle.std.proofs.Common.{◌≡◌, ◌-◌, ℕ, List, None, length}
use Rattle.hal_base.specs.declared.record.Record.{Record}
use Rattle.hal_base.specs.declared.shape.Origin.{Origin}
use Rattle.hal_base.specs.declared.shape.Origin.TheVariants.{Table}
use Rattle.hal_base.specs.declared.shape.Source.{Source}
use Rattle.memory_run.specs.steps.Inputs.{FewInputs, ServeStep}
use Rattle.memory_run.proofs.kept.keep_in_step.Given as goal

abbrev pub invariant-sources : goal.invariant-sources
invariant-sources g l =
    let means = g.F.Functions.meaning l.functions in
    let parts = l.table.shape.now.parts in
    record {
      few : FewInputs l.inputs;
      serve : (rows left : Origin → List Record) (i : ℕ) (sources : List Source) → l.table.rows.now ≡ left (Table l.table.number None) → ServeStep means parts rows left i l.step sources l.initial.inputs → ServeStep means parts rows left i l.step sources l.inputs;
    }

abbrev pub decreases-sources : goal.decreases-sources
decreases-sources g l = length l.inputs - l.source
