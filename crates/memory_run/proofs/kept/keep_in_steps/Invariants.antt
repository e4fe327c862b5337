use Rattle.std.proofs.Common.{◌≡◌, ◌-◌, List, length}
use Rattle.hal_base.specs.declared.record.Record.{Record}
use Rattle.plain_job.specs.Chain.{table_at}
use Rattle.memory_run.specs.steps.Inputs.{FewInEach, Serve}
use Rattle.memory_run.proofs.kept.keep_in_steps.Given as goal

abbrev pub invariant-steps : goal.invariant-steps
invariant-steps g l =
    let means = g.F.Functions.meaning l.functions in
    let shape = l.table.shape.now in
    record {
      few : FewInEach l.plan;
      serve : (real left : List (List Record)) → l.table.rows.now ≡ table_at left l.table.number → Serve means shape real left l.initial.plan → Serve means shape real left l.plan;
    }

abbrev pub decreases-steps : goal.decreases-steps
decreases-steps g l = length l.plan - l.step
