use Rattle.std.proofs.Common.{◌≡◌, ◌++◌, List, sym, ap, ◌∙◌, length, take, drop, arith}
use Rattle.std.proofs.lemmas.List.{append-nil, take_at}
use Rattle.hal_base.specs.declared.record.Record.{Record}
use Rattle.plain_job.specs.Chain.{parts_from, table_at}
use Rattle.memory_run.specs.steps.Inputs.{Serve}
use Rattle.memory_run.proofs.chain.begin.Goals as goal

pub returns-clause-serve : goal.returns-clause-serve
returns-clause-serve g c =
    let m = g.F.Functions.meaning c.args.functions.now in
    let all = c.into_vec-tables.result in
    let left = c.first_round.new.tables in
    let begun = c.as_mut_slice-left.ensures.value ∙ c.into_vec-tables.ensures in
    let serves : Serve m c.args.shape.now c.args.tables c.plan_of.new.tables c.deref.result.now = rw (c.deref.ensures.value, ← begun) c.in_ok-plan.ensures.serve in
    let many : length left ≡ all.len = omega (arith, c.first_round.auto.tables, c.plan_of.auto.tables, ap length c.as_mut_slice-left.ensures.value, all.ok) in
    let stored : take all.len (left ++ drop (length left) all.items) ≡ left = take_at left (drop (length left) all.items) all.len many in
    rw (stored, ← c.deref.ensures.value) (c.in_ok-parts.ensures.serve c.args.tables serves)

pub returns-clause-parts : goal.returns-clause-parts
returns-clause-parts g c =
    let m = g.F.Functions.meaning c.args.functions.now in
    let shape = c.args.shape.now in
    let begun = c.as_mut_slice-left.ensures.value ∙ c.into_vec-tables.ensures in
    let serves : Serve m shape c.args.tables c.plan_of.new.tables c.deref.result.now = rw (c.deref.ensures.value, ← begun) c.in_ok-plan.ensures.serve in
    let start = c.in_ok-plan.ensures.start ∙ ap (λ tables. table_at tables shape.start) begun in
    let read : List Record = table_at c.plan_of.new.tables shape.start in
    let begins : List Record → List (List Record) = λ state. parts_from m shape c.args.tables 1 state (length shape.steps) in
    ◌∙◌ {b = begins read} (c.in_ok-parts.ensures.out c.args.tables serves) (ap begins (start ∙ sym (append-nil (table_at c.args.tables shape.start))))
