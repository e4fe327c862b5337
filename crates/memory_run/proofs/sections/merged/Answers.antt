use Rattle.std.proofs.Common.{◌≡◌, [], ◌∷◌, ◌++◌, ap, ◌∙◌}
use Rattle.std.proofs.lemmas.Result.{IfOk-weaker}
use Rattle.memory_run.proofs.Parting.{alone_merged}
use Rattle.memory_run.proofs.sections.merged.Goals as goal

pub returns : goal.returns
returns c =
    let alone : c.push.new.self ≡ c.args.rows ∷ [] = c.in_ok-push.ensures.ok ∙ ap (λ before. before ++ c.args.rows ∷ []) c.new-alone.ensures in
    IfOk-weaker c.merge.result _ _ (λ merged e. e ∙ alone_merged c.args.rows c.push.new.self alone c.requires) c.merge.ensures
