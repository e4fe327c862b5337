use Rattle.std.proofs.Common.{◌∙◌}
use Rattle.std.proofs.lemmas.List.{at_drop_all}
use Rattle.std.proofs.lemmas.Result.{IfOk-weaker}
use Rattle.memory_run.proofs.Splits.{none_dealt, next_dealt, all_dealt}
use Rattle.memory_run.proofs.sources.spill_splits.Goals as goal

pub share_of-requires : goal.share_of-requires
share_of-requires g c = c.requires.parts.0

pub splits-init : goal.splits-init
splits-init g c = none_dealt c.in_ok-builder.builder c.args.splits.now c.in_ok-builder.ensures

pub splits-preserved : goal.splits-preserved
splits-preserved g c = next_dealt c.add.new.self c.args.splits.now c.splits.rows-index c.rows-item.result c.splits-test.true c.rows-item.is c.splits.invariant c.in_ok-add.ensures

pub returns : goal.returns
returns g c =
    let none = at_drop_all (λ xs. xs) c.args.splits.now c.splits.rows-index c.splits-test.false in
    let made = all_dealt none c.splits.invariant in
    IfOk-weaker c.finished.result _ _ (λ spill e. e ∙ made) c.finished.ensures
