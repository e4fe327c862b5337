use Rattle.std.proofs.Common.{◌∷◌, ap, ◌∙◌}
use Rattle.hal_outside.specs.DiskCalls.{Read}
use Rattle.hal_outside.specs.DiskFiles.{file_at}
use Rattle.hal_outside.specs.DiskSteps.{called, now_after}
use Rattle.hal_outside.proofs.log.Log.read.Goals as goal

pub returns-clause-read : goal.returns-clause-read
returns-clause-read c =
    let file = file_at (now_after c.args.self.now) c.args.node c.args.name.now in
    let answer = rw c.find.ensures at c.in_ok-got.ensures.answer in
    c.in_ok-add.ensures.added ∙ ap (λ a. called (Read c.args.node c.args.name.now c.args.want.now.0 a) ∷ c.args.self.now) (c.answer_to_keep.ensures file c.args.want.now.0 answer)
