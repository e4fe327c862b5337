use Rattle.std.proofs.Common.{[], ◌∷◌, sym, ◌∙◌}
use Rattle.cache_rebuild.specs.Goals.{plain_goal}
use Rattle.cache_rebuild.proofs.Steps.{alone, skipped, taken}
use Rattle.cache_rebuild.proofs.walk.Walk.look_at.Goals as goal

pub returns-then-not-has : goal.returns-then-not-has
returns-then-not-has c = λ left all comes. skipped c.args.view.now (plain_goal c.args.goal.now) all left (c.args.task.now ∷ []) c.args.self.now (alone (plain_goal c.args.goal.now) c.args.self.now.asked.names.keys c.args.task.now (sym c.has.ensures ∙ c.if-not-has.true)) comes

pub returns : goal.returns
returns c = λ left all comes. taken c.args.view.now (plain_goal c.args.goal.now) all left c.args.task.now c.args.self.now (record { found = c.push.new.self; asked = c.add_missing.new.self }) (sym c.has.ensures ∙ c.if-not-has.false) c.in_ok-push.ensures.items c.in_ok-add_missing.ensures comes
