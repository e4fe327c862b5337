use Rattle.std.proofs.Common.{◌≡◌, ◌++◌, ◌-◌, map, length, take, drop}
use Rattle.memory_run.specs.steps.Sections.{first_section, later_sections, left_of, rows_of}
use Rattle.memory_run.proofs.sections.take_sections.Given as goal

abbrev pub invariant-spills : goal.invariant-spills
invariant-spills l = record {
  first : map rows_of l.streams.items ≡ map first_section (take l.at (map left_of l.initial.spills));
  later : map left_of l.spills ≡ map later_sections (take l.at (map left_of l.initial.spills)) ++ drop l.at (map left_of l.initial.spills);
}

abbrev pub decreases-spills : goal.decreases-spills
decreases-spills l = length l.initial.spills - l.at
