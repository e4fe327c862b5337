-- The tables of a program, one after another.
use Rattle.std.proofs.Common.{◌≡◌, ℕ, zero, suc, ◌+◌, ◌<◌, ◌≤◌, List, [], ◌∷◌, ◌++◌, sym, ap, subst, ◌∙◌, length, take, drop, get_or, append_assoc, append-nil, arith}
use Rattle.std.proofs.Math.ListN.{drop_of_length-le}
use Rattle.std.proofs.Math.Seq.{drop-cons, drop-nil}
use Rattle.std.proofs.lemmas.List.{take-append-drop}
use Rattle.hal_base.specs.declared.fields.Schema.{Schema}
use Rattle.hal_base.specs.declared.record.Record.{Record}
use Rattle.hal_outside.specs.Told.{FileMap}
use Rattle.plain_job.specs.Fit.{AreRecordsOf, AreTablesOf}
use Rattle.loop_program.specs.Rules.{KeepsRules}
use Rattle.loop_program.specs.Whole.{Whole}
use Rattle.haloop_run.specs.Inputs.{HasTable, HaveTables, Listed, Outcome, listed, tables_of}
use Rattle.std.specs.List.{AllByRecursion}
use Rattle.haloop_run.specs.steps.Inputs.{NoTable, StopsAtTable, listing}
use Rattle.haloop_run.specs.steps.Runs.{AreFew}

-- ---- the tables that are listed

same_listing : (name name' file file' : List ℕ) (schema schema' : Schema) → name ≡ name' → file ≡ file' → schema ≡ schema' → listing name' file' schema' ≡ listing name file schema
same_listing name name' file file' schema schema' d e f =
    ap (λ n. listing n file' schema') (sym d) ∙ ap (λ f. listing name f schema') (sym e) ∙ ap (λ s. listing name file s) (sym f)

-- the tables from this place on: the one there, and those behind it
pub listed_at : (names files : List (List ℕ)) (schemas : List Schema) (i : ℕ) (name file : List ℕ) (schema : Schema) →
    i < length names → i < length files → i < length schemas → name ≡ get_or names i name → file ≡ get_or files i file → schema ≡ get_or schemas i schema →
    drop i (listed names files schemas) ≡ listing name file schema ∷ drop (suc i) (listed names files schemas)
listed_at [] files schemas i name file schema k l m d e f = absurd (omega arith)
listed_at (n ∷ names) [] schemas i name file schema k l m d e f = absurd (omega arith)
listed_at (n ∷ names) (p ∷ files) [] i name file schema k l m d e f = absurd (omega arith)
listed_at (n ∷ names) (p ∷ files) (s ∷ schemas) zero name file schema k l m d e f =
    ap (λ (t : Listed). t ∷ listed names files schemas) (same_listing name n file p schema s d e f)
listed_at (n ∷ names) (p ∷ files) (s ∷ schemas) (suc i) name file schema k l m d e f =
    listed_at names files schemas i name file schema (omega arith) (omega arith) (omega arith) d e f

-- behind the last schema no table is listed
pub none_listed : (names files : List (List ℕ)) (schemas : List Schema) (i : ℕ) → length schemas ≤ i → drop i (listed names files schemas) ≡ []
none_listed [] files schemas i l = drop-nil i
none_listed (n ∷ names) [] schemas i l = drop-nil i
none_listed (n ∷ names) (p ∷ files) [] i l = drop-nil i
none_listed (n ∷ names) (p ∷ files) (s ∷ schemas) zero l = absurd (omega arith)
none_listed (n ∷ names) (p ∷ files) (s ∷ schemas) (suc i) l = none_listed names files schemas i (omega arith)

-- the same, where slices have the names, the files and the schemas of a program
module _ (inside program : Whole) (is : inside ≡ program) (kept : KeepsRules inside) (names files : List (List ℕ)) (schemas : List Schema) (d : names ≡ inside.names) (e : files ≡ inside.files) (f : schemas ≡ inside.shape.tables) (i : ℕ) where
  pub table_at : (name file : List ℕ) (schema : Schema) → i < length schemas → name ≡ get_or names i name → file ≡ get_or files i file → schema ≡ get_or schemas i schema →
      drop i (tables_of program) ≡ listing name file schema ∷ drop (i + 1) (tables_of program)
  table_at name file schema l n p s =
      let long = ap length f in
      let next : suc i ≡ i + 1 = omega arith in
      subst (λ (w : Whole). drop i (tables_of w) ≡ listing name file schema ∷ drop (i + 1) (tables_of w)) is
      (listed_at inside.names inside.files inside.shape.tables i name file schema (omega (arith, kept.names)) (omega (arith, kept.files)) (omega arith)
      (subst (λ (xs : List (List ℕ)). name ≡ get_or xs i name) d n) (subst (λ (xs : List (List ℕ)). file ≡ get_or xs i file) e p) (subst (λ (xs : List Schema). schema ≡ get_or xs i schema) f s)
      ∙ ap (λ (n : ℕ). listing name file schema ∷ drop n (tables_of inside)) next)

  pub no_table_at : length schemas ≤ i → drop i (tables_of program) ≡ []
  no_table_at l =
      subst (λ (w : Whole). drop i (tables_of w) ≡ []) is (none_listed inside.names inside.files inside.shape.tables i (subst (λ (xs : List Schema). length xs ≤ i) f l))

-- ---- the tables fit their schemas

-- these tables are of the first of the schemas
abbrev pub FitSoFar : List Schema → ℕ → List (List Record) → Type 0
FitSoFar schemas i tables = (more : List (List Record)) → AreTablesOf (drop i schemas) more → AreTablesOf schemas (tables ++ more)

pub fit_one_more : (schemas : List Schema) (i : ℕ) (schema : Schema) (rows : List Record) (tables after : List (List Record)) → i < length schemas → schema ≡ get_or schemas i schema → AreRecordsOf schema rows → after ≡ tables ++ rows ∷ [] → FitSoFar schemas i tables → FitSoFar schemas (i + 1) after
fit_one_more schemas i schema rows tables after l e r a f = λ more t.
    let next : i + 1 ≡ suc i = omega arith in
    let d : drop i schemas ≡ schema ∷ drop (suc i) schemas = drop-cons schemas i schema l ∙ ap (λ (s : Schema). s ∷ drop (suc i) schemas) (sym e) in
    let at : tables ++ rows ∷ more ≡ after ++ more = sym (append_assoc tables (rows ∷ []) more) ∙ ap (λ (ts : List (List Record)). ts ++ more) (sym a) in
    subst (λ (ts : List (List Record)). AreTablesOf schemas ts) at (f (rows ∷ more) (subst (λ (ss : List Schema). AreTablesOf ss (rows ∷ more)) (sym d) (r, subst (λ (n : ℕ). AreTablesOf (drop n schemas) more) next t)))

pub fit_all : (schemas : List Schema) (i : ℕ) (tables : List (List Record)) → length schemas ≤ i → FitSoFar schemas i tables → AreTablesOf schemas tables
fit_all schemas i tables l f =
    subst (λ (ts : List (List Record)). AreTablesOf schemas ts) (append-nil tables) (f [] (subst (λ (ss : List Schema). AreTablesOf ss []) (sym (drop_of_length-le schemas l)) tt))

-- one more table that has no more records than it may have
pub few_more : (tables after : List (List Record)) (rows : List Record) → after ≡ tables ++ rows ∷ [] → AllByRecursion AreFew tables → AreFew rows → AllByRecursion AreFew after
few_more tables after rows e all few = subst (AllByRecursion AreFew) (sym e) (more tables all)
  where
    more : (ts : List (List Record)) → AllByRecursion AreFew ts → AllByRecursion AreFew (ts ++ rows ∷ [])
    more [] a = (few, tt)
    more (t ∷ ts) a = (a.0, more ts a.1)

-- ---- the tables that are accepted

-- the files of the first of the tables stand for these records
abbrev pub HaveFirst : List Listed → ℕ → List (List Record) → FileMap → Type 0
HaveFirst all i tables files = HaveTables files (take i all) tables

have_more : (files : FileMap) (before : List Listed) (rows : List (List Record)) (table : Listed) (more : List Record) → HaveTables files before rows → HasTable files table more → HaveTables files (before ++ table ∷ []) (rows ++ more ∷ [])
have_more files [] [] table more h t = (t, tt)
have_more files [] (r ∷ rows) table more h t = absurd h
have_more files (b ∷ before) [] table more h t = absurd h
have_more files (b ∷ before) (r ∷ rows) table more h t = (h.0, have_more files before rows table more h.1 t)

taken_more : (all rest : List Listed) (i : ℕ) (table : Listed) → drop i all ≡ table ∷ rest → take (suc i) all ≡ take i all ++ table ∷ []
taken_more [] rest zero table e = cc
taken_more [] rest (suc i) table e = cc
taken_more (t ∷ all) rest zero table e =
    let same : t ≡ table = cc in ap (λ (x : Listed). x ∷ []) same
taken_more (t ∷ all) rest (suc i) table e = ap (λ (xs : List Listed). t ∷ xs) (taken_more all rest i table e)

-- the tables, cut at this place
pub cut_at : (all rest : List Listed) (i : ℕ) (table : Listed) → drop i all ≡ table ∷ rest → all ≡ take i all ++ table ∷ rest
cut_at all rest i table e = sym (take-append-drop i all) ∙ ap (λ (xs : List Listed). take i all ++ xs) e

module _ (all rest : List Listed) (i : ℕ) (table : Listed) (e : drop i all ≡ table ∷ rest) (tables after : List (List Record)) (rows : List Record) (a : after ≡ tables ++ rows ∷ []) (files : FileMap) where
  pub have_one_more : HaveFirst all i tables files → HasTable files table rows → HaveFirst all (i + 1) after files
  have_one_more h t =
      let next : suc i ≡ i + 1 = omega arith in
      subst (λ (n : ℕ). HaveFirst all n after files) next
      (subst (λ (ts : List (List Record)). HaveFirst all (suc i) ts files) (sym a)
      (subst (λ (xs : List Listed). HaveTables files xs (tables ++ rows ∷ [])) (sym (taken_more all rest i table e)) (have_more files (take i all) tables table rows h t)))

pub have_all : (all : List Listed) (i : ℕ) (tables : List (List Record)) (files : FileMap) → drop i all ≡ [] → HaveFirst all i tables files → HaveTables files all tables
have_all all i tables files e h =
    subst (λ (xs : List Listed). HaveTables files xs tables) (sym (append-nil (take i all)) ∙ ap (λ (xs : List Listed). take i all ++ xs) (sym e) ∙ take-append-drop i all) h

-- the tables before one are accepted, and it is not
pub at_table : (program : Whole) (rest : List Listed) (i : ℕ) (table : Listed) → drop i (tables_of program) ≡ table ∷ rest → (tables : List (List Record)) (files : FileMap) → HaveFirst (tables_of program) i tables files → (it : Outcome) → NoTable table files it → StopsAtTable program files it
at_table program rest i table e tables files h it n = record {
  table = table;
  before = take i (tables_of program);
  behind = rest;
  in_order = cut_at (tables_of program) rest i table e;
  rows = tables;
  have_tables = h;
  no_table = n;
}
