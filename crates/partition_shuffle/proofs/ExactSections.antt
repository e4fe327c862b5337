-- The decoders read exactly the spill texts.
use Rattle.std.proofs.Common.{◌≡◌, ℕ, ◌<◌, ◌^◌, Bool, true, false, if◌then◌else◌, List, [], ◌∷◌, ◌++◌, Option, None, Some, IfSome, refl, sym, ap, ◌∙◌, length, codes, arith, subst}
use Rattle.std.specs.Int.{w16, to_be_bytes}
use Rattle.std.specs.List.{AllByRecursion, flat_map}
use Rattle.std.proofs.lemmas.List.{append-nil}
use Rattle.hal_base.specs.declared.record.Record.{Record}
use Rattle.hal_base.specs.declared.fields.Schema.{Schema}
use Rattle.hal_base.specs.Order.{record_cmp}
use Rattle.hal_base.specs.Sorted.{Ascending}
use Rattle.record_blocks.specs.Blocks.{FitBlock, block_text, number_bytes}
use Rattle.record_blocks.specs.steps.Decoders.{and_then, number, short, some_bytes, after, many, block}
use Rattle.record_blocks.specs.steps.Exact.{AreBytes, IsExact}
use Rattle.record_blocks.proofs.ExactDecoders.{two, number_exact, short_exact, some_exact, after_exact, block_exact, many_exact, ManyOf}
use Rattle.partition_shuffle.specs.SpillTexts.{FitSection, section_text, spill_text}
use Rattle.partition_shuffle.specs.steps.Sections.{in_order, if_in_order, at_the_end, ended, sorted_block, lifted, sized_block, section, sections, spill}
use Rattle.partition_shuffle.proofs.Neighbours.{ascending, neighbours}

-- records in order that a block can have
pub record FitSorted (schema : Schema) (rows : List Record) : Type 0 where
  pub fits : FitBlock schema rows
  pub in_order : Ascending record_cmp rows

sorted_end : (schema : Schema) (bytes : List ℕ) (read : Option (List Record × List ℕ)) → IfSome read (λ x. FitBlock schema x.0 × (bytes ≡ block_text schema x.0 ++ x.1)) → IfSome (ended (if_in_order None read)) (λ rows. FitSorted schema rows × (bytes ≡ block_text schema rows))
sorted_end schema bytes None h = tt
sorted_end schema bytes (Some read) h = judged (in_order None read.0) refl
  where
    whole : (bs : List ℕ) → read.1 ≡ bs → in_order None read.0 ≡ true → IfSome (at_the_end read.0 bs) (λ rows. FitSorted schema rows × (bytes ≡ block_text schema rows))
    whole [] e o = (record { fits = h.0; in_order = ascending read.0 o }, h.1 ∙ ap (λ bs. block_text schema read.0 ++ bs) e ∙ append-nil (block_text schema read.0))
    whole (b ∷ bs) e o = tt

    judged : (o : Bool) → in_order None read.0 ≡ o → IfSome (ended (if o then Some read else None)) (λ rows. FitSorted schema rows × (bytes ≡ block_text schema rows))
    judged true e = whole read.1 refl e
    judged false e = tt

-- what is found to be a block of records in order is one
pub sorted_found : (schema : Schema) (bytes : List ℕ) → AreBytes bytes → IfSome (sorted_block schema bytes) (λ rows. FitSorted schema rows × (bytes ≡ block_text schema rows))
unfolding sorted_block
sorted_found schema bytes b = sorted_end schema bytes (block schema bytes) ((block_exact schema).takes bytes b)

-- and a block of records in order is found
pub sorted_again : (schema : Schema) (rows : List Record) → FitSorted schema rows → sorted_block schema (block_text schema rows) ≡ Some rows
unfolding sorted_block
sorted_again schema rows g =
    let read : block schema (block_text schema rows) ≡ Some (rows, []) = ap (block schema) (sym (append-nil (block_text schema rows))) ∙ (block_exact schema).again rows [] g.fits in
    rw (read, neighbours rows g.in_order) refl

abbrev FitSized : Schema → ℕ → List Record → Type 0
FitSized schema n rows = FitSorted schema rows × (length (block_text schema rows) ≡ n)

front_bytes : (xs ys : List ℕ) → AreBytes (xs ++ ys) → AreBytes xs
front_bytes [] ys b = tt
front_bytes (x ∷ xs) ys b = (b.0, front_bytes xs ys b.1)

lifted_takes : (schema : Schema) (n : ℕ) (bytes rest : List ℕ) (known : Option (List Record)) → length bytes ≡ n → IfSome known (λ rows. FitSorted schema rows × (bytes ≡ block_text schema rows)) → IfSome (lifted known rest) (λ x. FitSized schema n x.0 × (bytes ++ rest ≡ block_text schema x.0 ++ x.1))
lifted_takes schema n bytes rest None l h = tt
lifted_takes schema n bytes rest (Some rows) l h = ((h.0, sym (ap length h.1) ∙ l), ap (λ bs. bs ++ rest) h.1)

sized_behind : (schema : Schema) (n : ℕ) (bs : List ℕ) (read : Option (List ℕ × List ℕ)) → AreBytes bs → IfSome read (λ x. (length x.0 ≡ n) × (bs ≡ x.0 ++ x.1)) → IfSome (and_then read (λ bytes. lifted (sorted_block schema bytes))) (λ x. FitSized schema n x.0 × (bs ≡ block_text schema x.0 ++ x.1))
sized_behind schema n bs None b h = tt
sized_behind schema n bs (Some read) b h =
    let front : AreBytes read.0 = front_bytes read.0 read.1 (subst AreBytes h.1 b) in
    let taken = lifted_takes schema n read.0 read.1 (sorted_block schema read.0) h.0 (sorted_found schema read.0 front) in
    subst (λ (bytes : List ℕ). IfSome (lifted (sorted_block schema read.0) read.1) (λ x. FitSized schema n x.0 × (bytes ≡ block_text schema x.0 ++ x.1))) (sym h.1) taken

sized_takes : (schema : Schema) (n : ℕ) (bs : List ℕ) → AreBytes bs → IfSome (sized_block schema n bs) (λ x. FitSized schema n x.0 × (bs ≡ block_text schema x.0 ++ x.1))
unfolding sized_block
sized_takes schema n bs b = sized_behind schema n bs (some_bytes n bs) b ((some_exact n).takes bs b)

sized_again : (schema : Schema) (n : ℕ) (rows : List Record) (rest : List ℕ) → FitSized schema n rows → sized_block schema n (block_text schema rows ++ rest) ≡ Some (rows, rest)
unfolding sized_block
sized_again schema n rows rest g = rw ((some_exact n).again (block_text schema rows) rest g.1, sorted_again schema rows g.0) refl

sized_exact : (schema : Schema) (n : ℕ) → IsExact (block_text schema) (FitSized schema n) (sized_block schema n)
sized_exact schema n = record { takes = sized_takes schema n; again = sized_again schema n }

pub section_exact : (schema : Schema) → IsExact (section_text schema) (FitSection schema) (section schema)
unfolding section
section_exact schema = two number_bytes (λ n. n < 2 ^ 64) number (block_text schema) (FitSized schema) (sized_block schema) (λ n rows. rows) (section_text schema) (FitSection schema) number_exact (sized_exact schema)
    (λ n rows l g. (record { fits = g.0.fits; in_order = g.0.in_order; short = omega (arith, g.1, l) }, ap (λ m. number_bytes m ++ block_text schema rows) g.1))
    (λ rows g. (length (block_text schema rows), rows, g.short, (record { fits = g.fits; in_order = g.in_order }, refl), refl))

-- parts that a spill can have
pub record FitParts (schema : Schema) (parts : List (List Record)) : Type 0 where
  pub each : AllByRecursion (FitSection schema) parts
  pub few : length parts < 2 ^ 16

abbrev sections_text : Schema → List (List Record) → List ℕ
sections_text schema parts = to_be_bytes w16 (length parts) ++ flat_map (section_text schema) parts

sections_exact : (schema : Schema) → IsExact (sections_text schema) (FitParts schema) (sections schema)
unfolding sections
sections_exact schema = two (λ n. to_be_bytes w16 n) (λ n. n < 2 ^ 16) short (λ parts. flat_map (section_text schema) parts) (ManyOf (FitSection schema)) (λ n. many (section schema) n) (λ n parts. parts) (sections_text schema) (FitParts schema) short_exact (λ n. many_exact (section_text schema) (FitSection schema) (section schema) n (section_exact schema))
    (λ n parts l g. (record { each = g.0; few = omega (arith, g.1, l) }, ap (λ m. to_be_bytes w16 m ++ flat_map (section_text schema) parts) g.1))
    (λ parts g. (length parts, parts, g.few, (g.each, refl), refl))

pub spill_exact : (schema : Schema) → IsExact (spill_text schema) (FitParts schema) (spill schema)
unfolding spill
spill_exact schema = two (λ (u : Unit {0}). codes "HLS1") (λ u. Unit {0}) (after (codes "HLS1")) (sections_text schema) (λ u. FitParts schema) (λ u. sections schema) (λ u parts. parts) (spill_text schema) (FitParts schema) (after_exact (codes "HLS1")) (λ u. sections_exact schema)
    (λ u parts p g. (g, refl))
    (λ parts g. (tt, parts, tt, g, refl))
