use Rattle.std.proofs.Common.{◌≡◌, sym, ◌∙◌}
use Rattle.std.proofs.lemmas.Result.{IfOk-weaker}
use Rattle.plain_job.specs.Chain.{table_at}
use Rattle.plain_job.proofs.Tables.{table_there, table_missing}
use Rattle.plain_job.proofs.round.table_at.Goals as goal

pub returns-in-Some : goal.returns-in-Some
returns-in-Some c =
    let there = table_there c.args.tables.now c.args.number c.in-Some.rows.now (sym c.in-Some.ensures.value) in
    IfOk-weaker c.copy.result (λ rows. rows ≡ c.in-Some.rows.now) (λ rows. rows ≡ table_at c.args.tables.now c.args.number) (λ rows e. e ∙ there) c.copy.ensures

pub returns-in-None : goal.returns-in-None
returns-in-None c = c.new.ensures ∙ table_missing c.args.tables.now c.args.number (sym c.in-None.ensures.value)
