-- The shape that a cluster is given: the caches that are not built are cleared in it.
use Rattle.std.specs.Prelude.{false}
use Rattle.hal_base.specs.declared.shape.Shape.{Shape}
use Rattle.loop_program.specs.Flags.{SourceFlags, flagged}

-- the caches of sources that are built: none
abbrev pub built : SourceFlags
built = record {
  reducer_input = λ j s source. false;
  mapper_input = λ j s source. false;
}

-- the shape with the caches that are built alone; that of the state is not
abbrev pub cleared : Shape → Shape
cleared shape = flagged built false shape
