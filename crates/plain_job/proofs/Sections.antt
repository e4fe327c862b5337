-- The sections of streams.
use Rattle.std.proofs.Common.{◌≡◌, ◌==◌, Bool, true, cond, List, [], ◌∷◌, ◌++◌, refl, sym, ap, ◌∙◌, map}
use Rattle.std.proofs.lemmas.List.Elements.{filter-append}
use Rattle.std.proofs.lemmas.List.Concat.{flat_map-append}
use Rattle.hal_base.specs.declared.value.Value.{Value}
use Rattle.hal_base.specs.declared.record.Record.{Record}
use Rattle.hal_base.specs.Laws.{record_cmp_total, record_cmp_exact}
use Rattle.hal_base.specs.Order.{record_cmp}
use Rattle.hal_base.specs.Sorted.{sorted}
use Rattle.hal_base.proofs.Sorts.{sorted_together}
use Rattle.plain_job.specs.Chain.{together}
use Rattle.plain_job.specs.Job.{job, stream}
use Rattle.plain_job.specs.Laws.{part}
use Rattle.plain_job.specs.Sections.{SectionsMakeThePart, SectionsServeEachRound, SplitsMakeTheSection, section}
use Rattle.plain_job.proofs.Keeps.{keeps}
use Rattle.plain_job.proofs.Numbers.{map_twice}
use Rattle.plain_job.proofs.Parted.{parts}

pub sections_make_the_part : SectionsMakeThePart
sections_make_the_part m i j p ss =
    let chosen : Value → Bool = λ key. m.partition i j key == p in
    ap (job (m.reduce i j) (λ _. true)) (sym (map_twice (sorted record_cmp) (part chosen) ss))
    ∙ keeps (m.reduce i j) (λ _. true) (map (part chosen) ss)
    ∙ sym (parts (m.reduce i j) chosen ss)

-- the parts of streams, one after another, are the part of the stream of the whole
parts_together : (chosen : Value → Bool) (means : Record → List Record) (xss : List (List Record)) → together (map (λ rows. part chosen (stream means rows)) xss) ≡ part chosen (stream means (together xss))
parts_together chosen means [] = refl
parts_together chosen means (xs ∷ xss) =
    ap (λ ys. part chosen (stream means xs) ++ ys) (parts_together chosen means xss)
    ∙ sym (filter-append (λ (row : Record). chosen row.key) (stream means xs) (stream means (together xss)))
    ∙ ap (part chosen) (sym (flat_map-append means xs (together xss)))

pub splits_make_the_section : SplitsMakeTheSection
splits_make_the_section m i j s p splits =
    let chosen : Value → Bool = λ key. m.partition i j key == p in
    let means : Record → List Record = m.map i j s in
    ap (λ yss. sorted record_cmp (together yss)) (sym (map_twice (sorted record_cmp) (λ rows. part chosen (stream means rows)) splits))
    ∙ sorted_together record_cmp_total record_cmp_exact (map (λ rows. part chosen (stream means rows)) splits)
    ∙ ap (sorted record_cmp) (parts_together chosen means splits)

same_stream : (f g : Record → List Record) → ((row : Record) → f row ≡ g row) → (rows : List Record) → stream f rows ≡ stream g rows
same_stream f g e [] = refl
same_stream f g e (row ∷ rows) = ap (λ xs. xs ++ stream f rows) (e row) ∙ ap (λ xs. g row ++ xs) (same_stream f g e rows)

same_part : (f g : Value → Bool) → ((key : Value) → f key ≡ g key) → (rows : List Record) → part f rows ≡ part g rows
same_part f g e [] = refl
same_part f g e (row ∷ rows) = ap (λ b. cond b (row ∷ part f rows) (part f rows)) (e row.key) ∙ ap (λ xs. cond (g row.key) (row ∷ xs) xs) (same_part f g e rows)

pub sections_serve_each_round : SectionsServeEachRound
sections_serve_each_round m r i i' j s p rows maps parted =
    ap (section m i j p) (same_stream (m.map i j s) (m.map i' j s) (λ row. r.maps i i' j s row maps) rows)
    ∙ ap (sorted record_cmp) (same_part (λ key. m.partition i j key == p) (λ key. m.partition i' j key == p) (λ key. ap (λ q. q == p) (r.partitions i i' j key parted)) (stream (m.map i' j s) rows))
