-- Records dealt to parts.
use Rattle.std.specs.Prelude.{ℕ, ◌+◌, ◌==◌, List, [], ◌∷◌, ◌++◌}
use Rattle.hal_base.specs.declared.record.Record.{Record}
use Rattle.hal_base.specs.Meaning.{Meaning}
use Rattle.plain_job.specs.Laws.{part}

-- the parts, of which the first has number p, with each of these records added to its part, if there is one
abbrev pub dealt : Meaning → ℕ → ℕ → ℕ → List (List Record) → List Record → List (List Record)
dealt m i j p [] rows = []
dealt m i j p (first ∷ parts) rows = (first ++ part (λ key. m.partition i j key == p) rows) ∷ dealt m i j (p + 1) parts rows
