use Rattle.std.proofs.Common.{◌≡◌, List}
use Rattle.hal_base.specs.declared.record.Record.{Record}
use Rattle.plain_job.specs.Chain.{table_at}
use Rattle.memory_run.specs.steps.Inputs.{FewInEach, Serve}
use Rattle.memory_run.proofs.kept.keep_tables.Given as goal

abbrev pub invariant-tables : goal.invariant-tables
invariant-tables g l =
    let means = g.F.Functions.meaning l.functions in
    record {
      few : FewInEach l.plan;
      serve : (real : List (List Record)) → Serve means l.shape real l.initial.tables l.initial.plan → Serve means l.shape real l.tables l.plan;
      start : table_at l.tables l.shape.start ≡ table_at l.initial.tables l.shape.start;
    }
