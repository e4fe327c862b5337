use Rattle.std.proofs.Common.{List, Ok, subst, ◌≡◌, ◌∙◌}
use Rattle.std.proofs.lemmas.Result.{err_from_is_err_and}
use Rattle.function_language.specs.declared.tree.Function.{Function}
use Rattle.program_sketch.specs.declared.sketch.TableSketch.{TableSketch}
use Rattle.loop_program.specs.Places.{distance_named, table_named}
use Rattle.loop_program.specs.steps.Tells.{IsFound}
use Rattle.loop_program.proofs.Collecting.{stops, stops_behind}
use Rattle.loop_program.proofs.places.find_places.Goals as goal

pub returns-in_err-start : goal.returns-in_err-start
returns-in_err-start c =
    let sketch = c.args.sketch.now in
    let fault = c.in_err-start.field-0.0 in
    let r = err_from_is_err_and c.from_residual-in_err-start.result c.from_residual-in_err-start.ensures.1 in
    let distance = subst (λ (functions : List Function). distance_named functions sketch.stop ≡ Ok c.in_ok-distance.distance) (c.as_slice-functions.ensures.value ∙ c.tree.ensures.value) c.in_ok-distance.ensures in
    let start = subst (λ (tables : List TableSketch). IsFound (table_named tables sketch.start) fault) c.as_slice-tables.ensures c.in_err-start.ensures in
    rw (r.1, r.2) (stops_behind (distance_named sketch.functions sketch.stop) c.in_ok-distance.distance _ fault distance (stops (table_named sketch.tables sketch.start) _ fault start))
