use Rattle.hal_outside.specs.Calls.{Changes, CountsStay}
use Rattle.haloop_run.proofs.OutputLaws.{WrittenSoFar}
use Rattle.haloop_run.proofs.output.write_parts.Given as goal

abbrev pub invariant-parts : goal.invariant-parts
invariant-parts g l =
    CountsStay g.F.Files l.initial.files l.files × Changes g.F.Files (WrittenSoFar l.out l.rows-items l.number) l.initial.files l.files
