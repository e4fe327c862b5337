-- A spill by its mark, its number of parts and its sections; a part that is read, and the section that it is.
use Rattle.std.proofs.Common.{◌≡◌, ℕ, ◌≤◌, List, [], Option, None, Some, refl, sym, ap, ◌∙◌, length, codes, arith}
use Rattle.std.specs.Prelude.{slice_get}
use Rattle.std.proofs.lemmas.Option.{slice_get_within}
use Rattle.hal_base.specs.declared.record.Record.{Record}
use Rattle.hal_base.specs.declared.fields.Schema.{Schema}
use Rattle.record_blocks.specs.steps.Decoders.{and_then, pure, short, after, many}
use Rattle.record_blocks.specs.steps.Exact.{AreBytes}
use Rattle.record_blocks.proofs.ExactDecoders.{whole_found, whole_again}
use Rattle.record_blocks.proofs.OneList.{same_what, read_as}
use Rattle.partition_shuffle.specs.SpillTexts.{IsSection, IsSpill, spill_text}
use Rattle.partition_shuffle.specs.SpillLaws.{SectionIsThePart}
use Rattle.partition_shuffle.specs.steps.Sections.{IsPart, section, sections, spill}
use Rattle.partition_shuffle.proofs.ExactSections.{FitParts, spill_exact}
use Rattle.partition_shuffle.proofs.Behind.{and_pure}
use Rattle.partition_shuffle.proofs.Picking.{many_length}

-- by its parts
pub spill_by_parts : (schema : Schema) (n : ℕ) (bs body rest : List ℕ) → after (codes "HLS1") bs ≡ Some (tt, body) → short body ≡ Some (n, rest) → spill schema bs ≡ many (section schema) n rest
unfolding spill sections
spill_by_parts schema n bs body rest h c = rw (h, c) (and_pure (and_then (many (section schema) n rest) (λ parts. pure parts)) ∙ and_pure (many (section schema) n rest))

pub no_mark : (schema : Schema) (bs : List ℕ) → after (codes "HLS1") bs ≡ None → spill schema bs ≡ None
unfolding spill
no_mark schema bs h = rw h refl

pub no_count : (schema : Schema) (bs body : List ℕ) → after (codes "HLS1") bs ≡ Some (tt, body) → short body ≡ None → spill schema bs ≡ None
unfolding spill sections
no_count schema bs body h c = rw (h, c) refl

-- of nothing that was read there is no part
pub none_read : (read : Option (List (List Record) × List ℕ)) (part : ℕ) (rows : List Record) → read ≡ None → IsPart read part rows → ⊥
none_read read part rows e is = clash read is.parts e is.whole
  where
    clash : (read : Option (List (List Record) × List ℕ)) (parts : List (List Record)) → read ≡ None → read ≡ Some (parts, []) → ⊥
    clash read parts e f = let c : None ≡ read_as parts [] = sym e ∙ f in cc

-- there is no part past their number
pub none_past : (schema : Schema) (n part : ℕ) (bs rest : List ℕ) (rows : List Record) → spill schema bs ≡ many (section schema) n rest → n ≤ part → IsPart (spill schema bs) part rows → ⊥
none_past schema n part bs rest rows e l is =
    let long : length is.parts ≡ n = many_length (section schema) n rest [] is.parts (sym e ∙ is.whole) in
    absurd (omega (arith, long, slice_get_within is.parts part rows is.here))

-- a part that is read is a section of the spill
pub part_is_section : (schema : Schema) (bs : List ℕ) (part : ℕ) (rows : List Record) → AreBytes bs → IsPart (spill schema bs) part rows → IsSection schema bs part rows
part_is_section schema bs part rows b is =
    let found = whole_found (spill_text schema) (FitParts schema) (spill schema) bs is.parts (spill_exact schema) b is.whole in
    record { parts = is.parts; spill = record { each = found.0.each; few = found.0.few; text = found.1 }; section = is.here }

read_again : (schema : Schema) (bs : List ℕ) (parts : List (List Record)) → IsSpill schema bs parts → spill schema bs ≡ Some (parts, [])
read_again schema bs parts is = whole_again (spill_text schema) (FitParts schema) (spill schema) bs parts (spill_exact schema) (record { each = is.each; few = is.few }) is.text

-- and a section of the spill is a part that is read
pub section_is_part : (schema : Schema) (bs : List ℕ) (part : ℕ) (rows : List Record) → IsSection schema bs part rows → IsPart (spill schema bs) part rows
section_is_part schema bs part rows is = record { parts = is.parts; whole = read_again schema bs is.parts is.spill; here = is.section }

one_spill : (schema : Schema) (bs : List ℕ) (parts others : List (List Record)) → IsSpill schema bs parts → IsSpill schema bs others → others ≡ parts
one_spill schema bs parts others is other = same_what others parts [] [] (sym (read_again schema bs others other) ∙ read_again schema bs parts is)

pub section_is_the_part : SectionIsThePart
section_is_the_part schema bs parts part (Some rows) is d = sym d.section ∙ ap (λ all. slice_get all part) (one_spill schema bs parts d.parts is d.spill)
section_is_the_part schema bs parts part None is d = none (slice_get parts part) refl
  where
    none : (here : Option (List Record)) → slice_get parts part ≡ here → None ≡ here
    none None e = refl
    none (Some rows) e = absurd (d rows (record { parts = parts; spill = is; section = e }))
