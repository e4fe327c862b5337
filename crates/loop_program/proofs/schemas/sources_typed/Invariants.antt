use Rattle.std.proofs.Common.{◌≡◌, None, drop}
use Rattle.loop_program.specs.Schemas as spec
use Rattle.loop_program.proofs.Collecting.{behind}
use Rattle.loop_program.proofs.schemas.sources_typed.Given as goal

abbrev pub invariant-sources : goal.invariant-sources
invariant-sources l =
    let takes = spec.schema_read l.before.tables.now l.before.state.now l.before.output.now in
    spec.sources_typed l.before.functions.now takes None l.sources ≡ behind l.made (spec.sources_typed l.before.functions.now takes l.key (drop l.source-index l.sources))
