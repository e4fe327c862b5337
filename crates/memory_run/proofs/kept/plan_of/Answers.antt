use Rattle.std.proofs.Common.{◌≡◌, ◌++◌, ap, ◌∙◌, length, take, drop, arith}
use Rattle.std.proofs.lemmas.List.{take_at}
use Rattle.memory_run.proofs.Serving.{few_read, read_serves}
use Rattle.memory_run.proofs.kept.plan_of.Goals as goal

pub keep_tables-requires-clause-few : goal.keep_tables-requires-clause-few
keep_tables-requires-clause-few g c = few_read c.args.shape.now.steps c.deref_mut.result.now (c.deref_mut.ensures.value ∙ c.in_ok-plan.ensures) c.requires.shape.few_steps.1 c.requires.shape.few_sources

pub returns-clause-serve : goal.returns-clause-serve
returns-clause-serve g c =
    let m = g.F.Functions.meaning c.args.functions.now in
    let shape = c.args.shape.now in
    let tables = c.args.tables.now in
    let plan = c.in_ok-plan.plan in
    let kept = c.keep_tables.new.plan in
    let many : length kept ≡ plan.len = omega (arith, c.keep_tables.auto.plan, ap length c.deref_mut.ensures.value, plan.ok) in
    let stored : take plan.len (kept ++ drop (length kept) plan.items) ≡ kept = take_at kept (drop (length kept) plan.items) plan.len many in
    rw stored (c.in_ok-keep_tables.ensures.serve tables (read_serves m shape tables c.deref_mut.result.now (c.deref_mut.ensures.value ∙ c.in_ok-plan.ensures)))
