-- The parts of the last step, read as values.
use Rattle.std.proofs.Common.{◌≡◌, List, [], ◌∷◌, refl, sym, ap, ◌∙◌, map, arith}
use Rattle.plain_job.specs.Chain.{out}
use Rattle.plain_job.proofs.ByNumbers.{last_is, parts_are}
use Rattle.plain_job.proofs.Numbers.{map_twice}
use Rattle.node_names.specs.declared.name.Name.TheVariants.{Out}
use Rattle.name_values.specs.Values.{World}
use Rattle.run_model.specs.Lists.{below}
use Rattle.run_model.specs.Tasks.{last}
use Rattle.task_values.specs.Attempts.{PartsAreRead, names_of}
use Rattle.task_values.specs.Reads.{Answer, AreOfValues}
use Rattle.task_values.specs.Tests.{rows_of}
use Rattle.task_values.proofs.Numbers.{range_is}
use Rattle.task_values.proofs.Spills.{step_there}

lists_read : (w : World) (answers : List Answer) → AreOfValues w 0 answers → map (λ (a : Answer). a.list) answers ≡ map (rows_of w) (names_of answers)
lists_read w [] a = refl
lists_read w (x ∷ answers) a = ap (λ rows. rows ∷ map (λ (a : Answer). a.list) answers) a.0 ∙ ap (λ xs. rows_of w x.name ∷ xs) (lists_read w answers a.1)

pub parts_read : PartsAreRead
parts_read w f i answers l e a =
    let there = step_there w (last w.shape) f.few_steps.0 (omega arith) in
    lists_read w answers a
    ∙ ap (map (rows_of w)) e
    ∙ map_twice (rows_of w) (Out i (last w.shape)) (below w.shape.parts)
    ∙ ap (map (out w.means w.shape w.tables i (last w.shape))) (range_is 0 w.shape.parts)
    ∙ sym (last_is w.means w.shape w.tables i l ∙ parts_are w.means w.shape w.tables i (last w.shape) there.0 there.1)
