-- What does not stay in a round.
use Rattle.std.specs.Prelude.{ℕ, ◌==◌, nat_le, Bool, true, ◌&&◌, ◌||◌}
use Rattle.hal_base.specs.Shapes.{source_at}
use Rattle.hal_base.specs.declared.shape.Shape.{Shape}
use Rattle.node_names.specs.declared.name.Name.{Name}
use Rattle.node_names.specs.declared.name.Name.TheVariants.{Blk, Spill, Out, Ric, Mic, Roc}
use Rattle.run_model.specs.Tasks.{is_cached, last}

-- the name stays in round i, by the round before it and the kept round
abbrev pub stays_by : Shape → ℕ → ℕ → ℕ → Name → Bool
stays_by shape i before kept (Blk t b) = true
stays_by shape i before kept (Ric j s p) = true
stays_by shape i before kept (Mic t b) = true
stays_by shape i before kept (Spill r j s q) = (r == i) || ((r == 1) && is_cached (source_at shape j s))
stays_by shape i before kept (Out r j p) = (r == i) || ((j == last shape) && nat_le kept r)
stays_by shape i before kept (Roc r p) = (r == i) || (r == before)
