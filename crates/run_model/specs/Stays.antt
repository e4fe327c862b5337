-- What stays in a round.
use Rattle.std.specs.Prelude.{ℕ, ◌-◌, ◌*◌, ◌/◌, ◌==◌, nat_le, Bool, true, ◌&&◌, ◌||◌}
use Rattle.hal_base.specs.Shapes.{source_at}
use Rattle.hal_base.specs.declared.shape.Shape.{Shape}
use Rattle.node_names.specs.declared.name.Name.{Name}
use Rattle.node_names.specs.declared.name.Name.TheVariants.{Blk, Spill, Out, Ric, Mic, Roc}
use Rattle.run_model.specs.Tasks.{is_cached, last}

-- the greatest multiple of `keep` below round i
abbrev pub kept_round : ℕ → ℕ → ℕ
kept_round keep i = keep * ((i - 1) / keep)

-- the name stays in round i: blocks and caches of inputs; spills of this round, and those of round 1 of a cached source;
-- outputs of this round, and of the last step those from the kept round on; of the kept outputs, those of this round and of
-- the one before
abbrev pub stays : Shape → ℕ → ℕ → Name → Bool
stays shape keep i (Blk t b) = true
stays shape keep i (Ric j s p) = true
stays shape keep i (Mic t b) = true
stays shape keep i (Spill r j s q) = (r == i) || ((r == 1) && is_cached (source_at shape j s))
stays shape keep i (Out r j p) = (r == i) || ((j == last shape) && nat_le (kept_round keep i) r)
stays shape keep i (Roc r p) = (r == i) || (r == i - 1)
