-- Tables and parts by number.
use Rattle.std.proofs.Common.{◌≡◌, ℕ, zero, suc, ◌+◌, List, [], ◌∷◌, ◌++◌, None, Some, refl, ap, map, slice_get, arith, add-one}
use Rattle.hal_base.specs.declared.record.Record.{Record}
use Rattle.plain_job.specs.Chain.{table_at, numbers_from}

pub table_there : (tables : List (List Record)) (n : ℕ) (rows : List Record) → slice_get tables n ≡ Some rows → rows ≡ table_at tables n
table_there [] n rows h = cc
table_there (first ∷ tables) zero rows h = cc
table_there (first ∷ tables) (suc n) rows h = table_there tables n rows h

pub table_missing : (tables : List (List Record)) (n : ℕ) → slice_get tables n ≡ None → [] ≡ table_at tables n
table_missing [] n h = refl
table_missing (first ∷ tables) zero h = cc
table_missing (first ∷ tables) (suc n) h = table_missing tables n h

one_more : {A : Type 0} (f : ℕ → A) (p n q : ℕ) → q ≡ p + n → map f (numbers_from p n) ++ f q ∷ [] ≡ map f (numbers_from p (suc n))
one_more f p zero q e = ap (λ k. f k ∷ []) (omega arith)
one_more f p (suc n) q e = ap (λ ys. f p ∷ ys) (one_more f (p + 1) n q (omega arith))

pub part_more : {A : Type 0} (f : ℕ → A) (n : ℕ) → map f (numbers_from 0 n) ++ f n ∷ [] ≡ map f (numbers_from 0 (n + 1))
part_more f n = rw add-one (one_more f 0 n n (omega arith))
