-- Sections of records, each in order.
use Rattle.std.proofs.Common.{◌≡◌, ◌≤◌, List, [], ◌∷◌, refl, sym, length, map, arith}
use Rattle.std.proofs.lemmas.List.{append-nil}
use Rattle.std.specs.List.{AllByRecursion}
use Rattle.hal_base.specs.declared.record.Record.{Record}
use Rattle.hal_base.specs.Order.{record_cmp}
use Rattle.hal_base.specs.Sorted.{Ascending, sorted}
use Rattle.hal_base.specs.Laws.{record_cmp_total}
use Rattle.hal_base.proofs.Sorts.{ascending_sorted}
use Rattle.hal_base.proofs.Strict.{sorted_same}
use Rattle.plain_job.specs.Chain.{together}

-- no section or one is in order as it stands
pub alone_sorted : (sections : List (List Record)) → length sections ≤ 1 → AllByRecursion (Ascending record_cmp) sections → together sections ≡ sorted record_cmp (together sections)
alone_sorted [] l a = refl
alone_sorted (rows ∷ []) l a = rw (append-nil rows) (sym (sorted_same record_cmp rows a.0))
alone_sorted (rows ∷ others ∷ sections) l a = absurd (omega arith)

-- lists that were sorted are in order
pub all_ascending : (parts : List (List Record)) → AllByRecursion (Ascending record_cmp) (map (sorted record_cmp) parts)
all_ascending [] = tt
all_ascending (rows ∷ parts) = (ascending_sorted record_cmp_total rows, all_ascending parts)
