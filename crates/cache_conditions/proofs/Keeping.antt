-- What a cache that is had keeps is what would be made anew.
use Rattle.std.proofs.Common.{◌≡◌, ℕ, zero, suc, Bool, true, false, not, ◌&&◌, List, None, Some, refl, sym, ap, ◌∙◌, length}
use Rattle.hal_base.specs.declared.record.Record.{Record}
use Rattle.hal_base.specs.declared.shape.Origin.{Origin}
use Rattle.hal_base.specs.declared.shape.Origin.TheVariants.{State, Prev, Table}
use Rattle.hal_base.specs.declared.shape.Shape.{Shape}
use Rattle.hal_base.specs.declared.shape.Source.{Source}
use Rattle.hal_base.specs.Meaning.{Meaning}
use Rattle.hal_base.specs.Shapes.{IsFixed, source_at}
use Rattle.plain_job.specs.Chain.{parts_of, rows_read, source_list, source_rows, state_of, together}
use Rattle.plain_job.specs.Sections.{source_section}
use Rattle.plain_job.proofs.KeyParts.{parts_make}
use Rattle.plain_job.proofs.Sections.{sections_serve_each_round}
use Rattle.function_meaning.specs.steps.MeaningLaws.{key_law, round_law}
use Rattle.loop_program.specs.Caches.{input_of, is_had, is_table_of_each_round}
use Rattle.loop_program.proofs.Verdicts.{may_be_kept, stays_local}
use Rattle.cache_conditions.specs.Laws.{CachedSourcesStayTheSame, LocalDistancesMakeTheDistance, MappedTablesStayTheSame, meaning}

apart : true ≡ false → ⊥
apart e = cc

-- ---- what is read

-- a fixed source reads its table in each round
fixed_rows : (tables : List (List Record)) (i i' : ℕ) (state state' before before' : List Record) (from : Origin) → IsFixed from → source_rows tables i state before from ≡ source_rows tables i' state' before' from
fixed_rows tables i i' state state' before before' State f = absurd f
fixed_rows tables i i' state state' before before' Prev f = absurd f
fixed_rows tables i i' state state' before before' (Table t None) f = refl
fixed_rows tables i i' state state' before before' (Table t (Some round)) f = absurd f

fixed_list : (m : Meaning) (shape : Shape) (tables : List (List Record)) (i i' j s : ℕ) (source : Source) → source_at shape j s ≡ Some source → IsFixed source.from → source_list m shape tables i j s ≡ source_list m shape tables i' j s
fixed_list m shape tables i i' zero s source e f = refl
fixed_list m shape tables i i' (suc k) s source e f =
    let rows = source_rows tables i (state_of m shape tables i) (together (parts_of m shape tables i k)) in
    let rows' = source_rows tables i' (state_of m shape tables i') (together (parts_of m shape tables i' k)) in
    ap (rows_read rows) e
    ∙ fixed_rows tables i i' (state_of m shape tables i) (state_of m shape tables i') (together (parts_of m shape tables i k)) (together (parts_of m shape tables i' k)) source.from f
    ∙ sym (ap (rows_read rows') e)

-- ---- the laws

pub sources_stay : CachedSourcesStayTheSame
sources_stay program tables i i' j s p source at e =
    let m = meaning program in
    let kept = may_be_kept program.functions program.uses program.asked j s source.from e in
    sections_serve_each_round m (round_law program.functions program.uses program.shape.parts) i i' j s p (source_list m program.shape tables i j s) kept.map kept.partition
    ∙ ap (source_section m i' j s p) (fixed_list m program.shape tables i i' j s source at kept.fixed)

-- a table that is read in every round is fixed
fixed_table : (from : Origin) → is_table_of_each_round from ≡ true → IsFixed from
fixed_table State e = absurd (apart (sym e))
fixed_table Prev e = absurd (apart (sym e))
fixed_table (Table t None) e = tt
fixed_table (Table t (Some round)) e = absurd (apart (sym e))

-- of three tests that all hold, the second does
second : (a b c : Bool) → (a && b && c) ≡ true → b ≡ true
second true true true e = refl
second true true false e = absurd (apart (sym e))
second true false true e = absurd (apart (sym e))
second true false false e = absurd (apart (sym e))
second false b c e = absurd (apart (sym e))

pub tables_stay : MappedTablesStayTheSame
tables_stay program tables i i' j s source at e =
    fixed_list (meaning program) program.shape tables i i' j s source at
    (fixed_table source.from (second program.asked.mapper_input (is_table_of_each_round source.from) (not (is_had (input_of program j s source.from))) e))

pub distances_local : LocalDistancesMakeTheDistance
distances_local program tables e far i i' l l' =
    let local = stays_local program.functions program.uses program.asked (length program.shape.steps) e in
    parts_make (meaning program) program.shape tables (round_law program.functions program.uses program.shape.parts) (key_law program.functions program.uses program.shape.parts) local.0 local.1 far i i' l l'
