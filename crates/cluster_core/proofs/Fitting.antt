-- Tables that fit, and the text of their blocks.
use Rattle.std.proofs.Common.{◌≡◌, ℕ, zero, suc, ◌*◌, List, [], ◌∷◌, Some, length, take, drop, slice_get, refl, sym, ap, subst, ◌∙◌}
use Rattle.std.specs.List.{AllByRecursion}
use Rattle.std.proofs.lemmas.List.{take-append-drop}
use Rattle.hal_base.specs.Values.{FitsSchema, IsRecordOf}
use Rattle.hal_base.specs.declared.fields.Schema.{Schema}
use Rattle.hal_base.specs.declared.record.Record.{Record}
use Rattle.plain_job.proofs.Lists.{all_weaker}
use Rattle.plain_job.specs.Chain.{table_at}
use Rattle.plain_job.specs.Fit.{AreRecordsOf, AreTablesOf}
use Rattle.plain_job.proofs.Tables.{table_there}
use Rattle.record_blocks.specs.Blocks.{block_text}
use Rattle.run_model.specs.State.{Setup}
use Rattle.cluster_core.specs.Filling.{block_files, block_rows, copies_of, text_in}
use Rattle.valid_copies.proofs.Adding.{all_back, all_front}

-- there are as many tables as schemas
pub as_many : (schemas : List Schema) (tables : List (List Record)) → AreTablesOf schemas tables → length tables ≡ length schemas
as_many [] [] f = refl
as_many [] (rows ∷ tables) f = absurd f
as_many (schema ∷ schemas) [] f = absurd f
as_many (schema ∷ schemas) (rows ∷ tables) f = ap suc (as_many schemas tables f.1)

-- a table has records of its schema
pub table_fits : (schemas : List Schema) (tables : List (List Record)) (t : ℕ) (schema : Schema) → AreTablesOf schemas tables → slice_get schemas t ≡ Some schema → AreRecordsOf schema (table_at tables t)
table_fits [] [] t schema f e = tt
table_fits [] (rows ∷ tables) t schema f e = absurd f
table_fits (first ∷ schemas) [] t schema f e = absurd f
table_fits (first ∷ schemas) (rows ∷ tables) zero schema f e = let same : first ≡ schema = cc in subst (λ s. AreRecordsOf s rows) same f.0
table_fits (first ∷ schemas) (rows ∷ tables) (suc t) schema f e = table_fits schemas tables t schema f.1 e

-- so do some of its records
pub all_between : {A : Type 0} (P : A → Type 0) (n k : ℕ) (xs : List A) → AllByRecursion P xs → AllByRecursion P (take n (drop k xs))
all_between P n k xs a =
    let behind : AllByRecursion P (drop k xs) = all_back P (take k xs) (drop k xs) (subst (AllByRecursion P) (sym (take-append-drop k xs)) a) in
    all_front P (take n (drop k xs)) (drop n (drop k xs)) (subst (AllByRecursion P) (sym (take-append-drop n (drop k xs))) behind)

pub all_fit : (schema : Schema) (rows : List Record) → AreRecordsOf schema rows → AllByRecursion (FitsSchema schema) rows
all_fit schema rows a = all_weaker (IsRecordOf schema) (FitsSchema schema) rows (λ row r. r.fits) a

-- the copies of a block are its files
pub block_is : (setup : Setup) (tables : List (List Record)) (t b : ℕ) (schema : Schema) (rows : List Record) (bytes : List ℕ) → slice_get setup.shape.tables t ≡ Some schema → slice_get tables t ≡ Some rows
    → bytes ≡ block_text schema (take setup.schedule.block (drop (b * setup.schedule.block) rows)) → copies_of setup.schedule t b bytes ≡ block_files setup tables t b
block_is setup tables t b schema rows bytes s r e =
    ap (copies_of setup.schedule t b)
    (e ∙ ap (λ them. block_text schema (take setup.schedule.block (drop (b * setup.schedule.block) them))) (table_there tables t rows r) ∙ ap (λ o. text_in o (block_rows setup.schedule.block tables t b)) (sym s))
