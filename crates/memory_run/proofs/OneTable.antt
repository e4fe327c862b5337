-- A table by its number, and as a split alone.
use Rattle.std.proofs.Common.{◌≡◌, ℕ, zero, suc, ◌+◌, ◌-◌, ◌<◌, ◌≤◌, List, [], ◌∷◌, refl, length, get_or, take, drop, arith}
use Rattle.std.proofs.lemmas.List.{append-nil}
use Rattle.hal_base.specs.declared.record.Record.{Record}
use Rattle.plain_job.specs.Chain.{table_at, together}

-- the split at the index of a table is the table
pub split_there : (tables : List (List Record)) (n : ℕ) → n < length tables → together (take (n + 1 - n) (drop n tables)) ≡ table_at tables n
split_there [] n l = absurd (omega arith)
split_there (rows ∷ tables) zero l = append-nil rows
split_there (rows ∷ tables) (suc n) l =
    let e : suc n + 1 - suc n ≡ n + 1 - n = omega arith in rw e (split_there tables n (omega arith))

-- no split stands for a table that is not there
pub split_missing : (tables : List (List Record)) (n : ℕ) → length tables ≤ n → [] ≡ table_at tables n
split_missing [] n l = refl
split_missing (rows ∷ tables) zero l = absurd (omega arith)
split_missing (rows ∷ tables) (suc n) l = split_missing tables n (omega arith)

-- the table at an index is that of its number
pub table_is : (tables : List (List Record)) (n : ℕ) (other rows : List Record) → n < length tables → rows ≡ get_or tables n other → rows ≡ table_at tables n
table_is [] n other rows l e = absurd (omega arith)
table_is (first ∷ tables) zero other rows l e = e
table_is (first ∷ tables) (suc n) other rows l e = table_is tables n other rows (omega arith) e
