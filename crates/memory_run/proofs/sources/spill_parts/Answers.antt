use Rattle.std.proofs.Common.{◌∙◌, arith}
use Rattle.std.proofs.lemmas.List.{nil_from_length}
use Rattle.std.proofs.lemmas.Result.{IfOk-weaker}
use Rattle.memory_run.proofs.Splits.{one_dealt, all_dealt}
use Rattle.memory_run.proofs.sources.spill_parts.Goals as goal

pub share_of-requires : goal.share_of-requires
share_of-requires g c = c.requires.parts.0

pub parts-preserved : goal.parts-preserved
parts-preserved g c = one_dealt c.add_part.new.builder c.in-Some.rows c.next.new.self.rest.items c.in-Some.ensures.steps.0 c.parts.invariant c.in_ok-add_part.ensures

pub returns : goal.returns
returns g c =
    let none = nil_from_length c.parts.rows-iterator.rest.items (omega (arith, c.parts.rows-iterator.rest.ok, c.in-None.ensures.steps)) in
    let made = all_dealt none c.parts.invariant in
    IfOk-weaker c.finished.result _ _ (λ spill e. e ∙ made) c.finished.ensures
