-- Records dealt to parts: one after another, one alone, and to parts with no records.
use Rattle.std.proofs.Common.{◌≡◌, ℕ, zero, suc, ◌+◌, ◌<◌, ◌≤◌, ◌==◌, List, [], ◌∷◌, ◌++◌, refl, sym, ap, ◌∙◌, map, length, get_or, drop, reverse, replicate, arith}
use Rattle.std.proofs.Math.ListN.{set}
use Rattle.std.proofs.lemmas.Bool.{eq-eqb, ne_eqb}
use Rattle.std.proofs.lemmas.List.{append-nil, append_assoc, reverse-append, at_drop_more}
use Rattle.std.proofs.lemmas.List.Elements.{filter-append}
use Rattle.std.specs.List.{AllByRecursion}
use Rattle.hal_base.specs.declared.record.Record.{Record}
use Rattle.hal_base.specs.Meaning.{Meaning}
use Rattle.hal_base.specs.Order.{record_cmp}
use Rattle.hal_base.specs.Sorted.{sorted}
use Rattle.plain_job.specs.Job.{stream}
use Rattle.plain_job.specs.Laws.{part}
use Rattle.plain_job.specs.Chain.{numbers_from}
use Rattle.plain_job.specs.Sections.{section}
use Rattle.sorted_parts.specs.steps.Dealt.{dealt}

pub length-dealt : (m : Meaning) (i j p : ℕ) (parts : List (List Record)) (rows : List Record) → length (dealt m i j p parts rows) ≡ length parts
length-dealt m i j p [] rows = refl
length-dealt m i j p (first ∷ parts) rows = ap suc (length-dealt m i j (p + 1) parts rows)

pub dealt_none : (m : Meaning) (i j p : ℕ) (parts : List (List Record)) → dealt m i j p parts [] ≡ parts
dealt_none m i j p [] = refl
dealt_none m i j p (first ∷ parts) = rw (append-nil first, dealt_none m i j (p + 1) parts) refl

pub dealt_twice : (m : Meaning) (i j p : ℕ) (parts : List (List Record)) (xs ys : List Record) → dealt m i j p (dealt m i j p parts xs) ys ≡ dealt m i j p parts (xs ++ ys)
dealt_twice m i j p [] xs ys = refl
dealt_twice m i j p (first ∷ parts) xs ys =
    let here = λ (row : Record). m.partition i j row.key == p in
    rw (dealt_twice m i j (p + 1) parts xs ys, append_assoc first (part (λ key. m.partition i j key == p) xs) (part (λ key. m.partition i j key == p) ys), filter-append here xs ys) refl

-- a record of an earlier part leaves the parts as they are
dealt_before : (m : Meaning) (i j p : ℕ) (parts : List (List Record)) (row : Record) → m.partition i j row.key < p → dealt m i j p parts (row ∷ []) ≡ parts
dealt_before m i j p [] row l = refl
dealt_before m i j p (first ∷ parts) row l = rw (ne_eqb (m.partition i j row.key) p (λ e. absurd (omega arith)), append-nil first, dealt_before m i j (p + 1) parts row (omega arith)) refl

dealt_at : (m : Meaning) (i j p k : ℕ) (parts : List (List Record)) (row : Record) (rows : List Record) → k < length parts → m.partition i j row.key ≡ p + k → rows ≡ get_or parts k rows → set parts k (rows ++ row ∷ []) ≡ dealt m i j p parts (row ∷ [])
dealt_at m i j p k [] row rows l e r = absurd (omega arith)
dealt_at m i j p zero (first ∷ parts) row rows l e r = rw (eq-eqb (m.partition i j row.key) p (omega arith), dealt_before m i j (p + 1) parts row (omega arith), r) refl
dealt_at m i j p (suc k) (first ∷ parts) row rows l e r = rw (ne_eqb (m.partition i j row.key) p (λ f. absurd (omega arith)), append-nil first, dealt_at m i j (p + 1) k parts row rows (omega arith) (omega arith) r) refl

-- a record past all parts leaves the parts as they are
dealt_past : (m : Meaning) (i j p : ℕ) (parts : List (List Record)) (row : Record) → p + length parts ≤ m.partition i j row.key → dealt m i j p parts (row ∷ []) ≡ parts
dealt_past m i j p [] row l = refl
dealt_past m i j p (first ∷ parts) row l = rw (ne_eqb (m.partition i j row.key) p (λ e. absurd (omega arith)), append-nil first, dealt_past m i j (p + 1) parts row (omega arith)) refl

-- a record of no part is dealt
pub dealt_nowhere : (m : Meaning) (i j k : ℕ) (parts : List (List Record)) (row : Record) → k ≡ m.partition i j row.key → length parts ≤ k → parts ≡ dealt m i j 0 parts (row ∷ [])
dealt_nowhere m i j k parts row e l = sym (dealt_past m i j 0 parts row (omega arith))

-- a record added to its part is dealt
pub dealt_one : (m : Meaning) (i j k : ℕ) (parts : List (List Record)) (row : Record) (rows more : List Record) → k < length parts → k ≡ m.partition i j row.key → rows ≡ get_or parts k rows → more ≡ get_or parts k rows ++ row ∷ [] → set parts k more ≡ dealt m i j 0 parts (row ∷ [])
dealt_one m i j k parts row rows more l e r added =
    let same : more ≡ rows ++ row ∷ [] = added ∙ ap (λ ys. ys ++ row ∷ []) (sym r) in
    ap (λ ys. set parts k ys) same ∙ dealt_at m i j 0 k parts row rows (omega arith) (omega arith) r

-- a list with no records is dealt already
pub dealt_end : (m : Meaning) (i j : ℕ) (parts whole : List (List Record)) (rows : List Record) → rows ≡ [] → dealt m i j 0 parts rows ≡ whole → parts ≡ whole
dealt_end m i j parts whole rows e made = sym (dealt_none m i j 0 parts) ∙ ap (λ ys. dealt m i j 0 parts ys) (sym e) ∙ made

sorted_all : (m : Meaning) (i j p n : ℕ) (rows : List Record) → map (sorted record_cmp) (dealt m i j p (replicate n []) rows) ≡ map (λ q. sorted record_cmp (part (λ key. m.partition i j key == q) rows)) (numbers_from p n)
sorted_all m i j p zero rows = refl
sorted_all m i j p (suc n) rows = ap (λ parts. sorted record_cmp (part (λ key. m.partition i j key == p) rows) ∷ parts) (sorted_all m i j (p + 1) n rows)

-- records dealt to parts with no records, and each part sorted
pub dealt_sorted : (m : Meaning) (i j n : ℕ) (rows : List Record) (empty changed : List (List Record)) → empty ≡ replicate n [] → changed ≡ dealt m i j 0 empty rows → map (sorted record_cmp) changed ≡ map (λ p. sorted record_cmp (part (λ key. m.partition i j key == p) rows)) (numbers_from 0 n)
dealt_sorted m i j n rows empty changed none made = rw (made, none) (sorted_all m i j 0 n rows)

-- once the first of some records are dealt, the others are still to be dealt
pub dealt_more : (m : Meaning) (i j : ℕ) (parts changed whole : List (List Record)) (all xs ys : List Record) → all ≡ xs ++ ys → changed ≡ dealt m i j 0 parts xs → dealt m i j 0 parts all ≡ whole → dealt m i j 0 changed ys ≡ whole
dealt_more m i j parts changed whole all xs ys e made so_far =
    let twice : dealt m i j 0 changed ys ≡ dealt m i j 0 parts all = rw (made, e) (dealt_twice m i j 0 parts xs ys) in
    twice ∙ so_far

-- what the map emits for the next record, added to a list with no records, and for the others
pub stream_more : (means : Record → List Record) (rows : List Record) (k : ℕ) (row : Record) (before emitted : List Record) → k < length rows → row ≡ get_or rows k row → before ≡ [] → emitted ≡ before ++ means row → stream means (drop k rows) ≡ emitted ++ stream means (drop (k + 1) rows)
stream_more means rows k row before emitted l e none added =
    let one : emitted ≡ means row = added ∙ ap (λ xs. xs ++ means row) none in
    rw (one, e) (at_drop_more (stream means) rows k row l)

-- the last record of a list is the first of the list turned round
pub last_first : (rows rest : List Record) (row : Record) → rows ≡ rest ++ row ∷ [] → reverse rows ≡ row ∷ reverse rest
last_first rows rest row e = ap reverse e ∙ reverse-append rest (row ∷ [])

-- the records of the first part, where all are of it
all_in_first : (m : Meaning) (i j : ℕ) (rows : List Record) → AllByRecursion (λ (row : Record). m.partition i j row.key ≡ 0) rows → part (λ key. m.partition i j key == 0) rows ≡ rows
all_in_first m i j [] all = refl
all_in_first m i j (row ∷ rows) all = rw (eq-eqb (m.partition i j row.key) 0 all.0, all_in_first m i j rows all.1) refl

-- records behind those of the one part that there is are dealt
pub dealt_to_one : (m : Meaning) (i j : ℕ) (parts : List (List Record)) (rows old more : List Record) → length parts ≡ 1 → AllByRecursion (λ (row : Record). m.partition i j row.key ≡ 0) rows → old ≡ get_or parts 0 old → more ≡ get_or parts 0 old ++ rows → set parts 0 more ≡ dealt m i j 0 parts rows
dealt_to_one m i j [] rows old more one all e added = absurd (omega arith)
dealt_to_one m i j (first ∷ []) rows old more one all e added = rw (all_in_first m i j rows all, added) refl
dealt_to_one m i j (first ∷ second ∷ parts) rows old more one all e added = absurd (omega arith)
