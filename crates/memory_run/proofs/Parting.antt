-- The sections of streams, part by part.
use Rattle.std.proofs.Common.{◌≡◌, ℕ, zero, suc, ◌+◌, ◌-◌, ◌<◌, ◌==◌, true, List, [], ◌∷◌, ◌++◌, refl, sym, ap, ◌∙◌, map, length, get_or, take, drop, arith}
use Rattle.std.proofs.Math.ListN.{set}
use Rattle.std.proofs.lemmas.List.{append-nil, append_assoc, map-append}
use Rattle.hal_base.specs.declared.record.Record.{Record}
use Rattle.hal_base.specs.Meaning.{Meaning}
use Rattle.hal_base.specs.Order.{record_cmp}
use Rattle.hal_base.specs.Sorted.{Ascending, sorted}
use Rattle.hal_base.proofs.Passes.{pass_over}
use Rattle.hal_base.proofs.Strict.{sorted_same}
use Rattle.plain_job.specs.Job.{job}
use Rattle.plain_job.specs.Laws.{part}
use Rattle.plain_job.specs.Chain.{numbers_from, part_out, together}
use Rattle.plain_job.proofs.Sections.{sections_make_the_part}
use Rattle.memory_run.specs.declared.sections.Spill.{Spill}
use Rattle.memory_run.specs.declared.streams.Stream.{Stream}
use Rattle.memory_run.specs.steps.Sections.{first_section, later_sections, left_of, rows_of, sections}
use Rattle.memory_run.specs.steps.Inputs.{parts_made}

-- one section in order is its own merge
pub alone_merged : (rows : List Record) (alone : List (List Record)) → alone ≡ rows ∷ [] → Ascending record_cmp rows → sorted record_cmp (together alone) ≡ rows
alone_merged rows alone e a = rw (e, append-nil rows) (sorted_same record_cmp rows a)

first_of : (m : Meaning) (i j p n : ℕ) (streams : List (List Record)) → map first_section (map (sections m i j p (suc n)) streams) ≡ map (λ rows. sorted record_cmp (part (λ key. m.partition i j key == p) rows)) streams
first_of m i j p n [] = refl
first_of m i j p n (rows ∷ streams) = ap (λ ys. sorted record_cmp (part (λ key. m.partition i j key == p) rows) ∷ ys) (first_of m i j p n streams)

later_of : (m : Meaning) (i j p n : ℕ) (streams : List (List Record)) → map later_sections (map (sections m i j p (suc n)) streams) ≡ map (sections m i j (p + 1) n) streams
later_of m i j p n [] = refl
later_of m i j p n (rows ∷ streams) = ap (λ ys. sections m i j (p + 1) n rows ∷ ys) (later_of m i j p n streams)

-- the parts made of the sections of streams, part by part, are the parts of the step
pub parts_are : (m : Meaning) (i j p n : ℕ) (streams : List (List Record)) → parts_made (job (m.reduce i j) (λ _. true)) n (map (sections m i j p n) streams) ≡ map (part_out m i j streams) (numbers_from p n)
parts_are m i j p zero streams = refl
parts_are m i j p (suc n) streams =
    let makes : List (List Record) → List Record = job (m.reduce i j) (λ _. true) in
    let first : makes (map first_section (map (sections m i j p (suc n)) streams)) ≡ part_out m i j streams p = ap makes (first_of m i j p n streams) ∙ sections_make_the_part m i j p streams in
    let later : parts_made makes n (map later_sections (map (sections m i j p (suc n)) streams)) ≡ map (part_out m i j streams) (numbers_from (p + 1) n) =
    ap (parts_made makes n) (later_of m i j p n streams) ∙ parts_are m i j (p + 1) n streams
    in
    ap (λ x. x ∷ parts_made makes n (map later_sections (map (sections m i j p (suc n)) streams))) first ∙ ap (λ xs. part_out m i j streams p ∷ xs) later

-- one part more: what the first sections give, and what is to be made of the sections after them
pub one_part_more : (makes : List (List Record) → List Record) (n p : ℕ) (now after : List (List (List Record))) (out whole : List (List Record)) (rows : List Record) → p < n → after ≡ map later_sections now → rows ≡ makes (map first_section now) → out ++ parts_made makes (n - p) now ≡ whole → (out ++ rows ∷ []) ++ parts_made makes (n - (p + 1)) after ≡ whole
one_part_more makes n p now after out whole rows l later made so_far =
    let more : n - p ≡ suc (n - (p + 1)) = omega arith in
    let next : parts_made makes (n - p) now ≡ rows ∷ parts_made makes (n - (p + 1)) after = ap (λ k. parts_made makes k now) more ∙ rw (later, made) refl in
    append_assoc out (rows ∷ []) (parts_made makes (n - (p + 1)) after) ∙ ap (λ xs. out ++ xs) (sym next) ∙ so_far

-- the first section taken of one spill more
pub one_taken : (all : List (List (List Record))) (now : List Spill) (k : ℕ) (spill left : Spill) → k < length now → map left_of now ≡ map later_sections (take k all) ++ drop k all → spill ≡ get_or now k spill → left_of left ≡ later_sections (left_of (get_or now k spill)) → (map left_of (set now k left) ≡ map later_sections (take (k + 1) all) ++ drop (k + 1) all) × (map first_section (take k all) ++ first_section (left_of spill) ∷ [] ≡ map first_section (take (k + 1) all))
one_taken all now k spill left l e is later = pass_over left_of later_sections first_section all now k spill left l e is later

-- one stream more stands beside the first section that it has
pub one_begun : (firsts more : List (List Record)) (streams pushed : List Stream) (stream : Stream) (rows : List Record) → pushed ≡ streams ++ stream ∷ [] → rows_of stream ≡ rows → map rows_of streams ≡ firsts → firsts ++ rows ∷ [] ≡ more → map rows_of pushed ≡ more
one_begun firsts more streams pushed stream rows added is before all =
    ap (map rows_of) added ∙ map-append rows_of streams (stream ∷ []) ∙ ap (λ xs. xs ++ rows_of stream ∷ []) before ∙ ap (λ x. firsts ++ x ∷ []) is ∙ all
