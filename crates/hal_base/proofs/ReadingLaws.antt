-- What the steps of reading find, put together.
use Rattle.std.proofs.Common.{◌≡◌, ℕ, suc, ◌+◌, ◌<◌, ◌≤◌, List, [], ◌∷◌, ◌++◌, Result, Ok, Err, refl, sym, ap, subst, ◌∙◌, map, length, arith, take, drop, get_or, length-append, length-take}
use Rattle.std.specs.List.{AllByRecursion, join_with_byte}
use Rattle.std.specs.Result.{MatchResult, IfOk, IfErr}
use Rattle.std.proofs.Math.Seq.{split_at}
use Rattle.std.proofs.lemmas.List.Splits.{join_with_byte-slice_split}
use Rattle.hal_base.specs.declared.value.Kind.{Kind}
use Rattle.hal_base.specs.declared.value.Kind.TheVariants as kind
use Rattle.hal_base.specs.declared.value.Value.{Value}
use Rattle.hal_base.specs.declared.record.Record.{Record}
use Rattle.hal_base.specs.declared.fields.Schema.{Schema}
use Rattle.hal_base.specs.declared.line.LineFault.{LineFault}
use Rattle.hal_base.specs.declared.line.LineFault.TheVariants.{FieldCount, BadNumber, BadText, Memory}
use Rattle.hal_base.specs.declared.table.TableFault.{TableFault}
use Rattle.hal_base.specs.declared.table.TableFault.TheVariants as table
use Rattle.hal_base.specs.Values.{kind_of, IsValue, IsRecordOf}
use Rattle.hal_base.specs.Lines.{value_text, line_of, StandsFor}
use Rattle.hal_base.specs.LineFaults.{Spelled, FirstBad, HasFault, pieces_in}
use Rattle.hal_base.specs.steps.LineReading.{IsRead, AreRead, HasPieceFault, HasFieldFault}
use Rattle.hal_base.specs.TableFaults.{HasTableFault}
use Rattle.hal_base.proofs.LineLaws.{first_bad, no_fault, one_record, same_length}

abbrev HasFirstBad : Kind → List Kind → List (List ℕ) → ℕ → Type 0
HasFirstBad bad kinds pieces n = (place : ℕ) × (n ≡ suc place) × FirstBad bad kinds pieces place

bad_here : (bad : Kind) (vs : List Value) (k : Kind) (ks kinds : List Kind) (p : List ℕ) (ps pieces : List (List ℕ)) (n : ℕ) → AllByRecursion IsValue vs → kinds ≡ map kind_of vs ++ k ∷ ks → pieces ≡ map value_text vs ++ p ∷ ps → n ≡ suc (length vs) → k ≡ bad → (Spelled k p → ⊥) → HasFirstBad bad kinds pieces n
bad_here bad vs k ks kinds p ps pieces n a ke pe ne be refused =
    (length vs, ne, subst (λ (xs : List Kind). FirstBad bad xs pieces (length vs)) (sym ke) (subst (λ (ys : List (List ℕ)). FirstBad bad (map kind_of vs ++ k ∷ ks) ys (length vs)) (sym pe) (first_bad bad vs k ks p ps a be refused)))

-- a bad piece after good ones is the first bad one
pub field_fault : (vs : List Value) (k : Kind) (ks kinds : List Kind) (p : List ℕ) (ps pieces : List (List ℕ)) (place : ℕ) (fault : LineFault) → AllByRecursion IsValue vs → kinds ≡ map kind_of vs ++ k ∷ ks → pieces ≡ map value_text vs ++ p ∷ ps → place ≡ suc (length vs) → HasPieceFault k place p fault → HasFieldFault kinds pieces fault
field_fault vs k ks kinds p ps pieces place FieldCount a ke pe ne f = f
field_fault vs k ks kinds p ps pieces place (BadNumber n) a ke pe ne f = bad_here kind.Int vs k ks kinds p ps pieces n a ke pe (f.0 ∙ ne) f.1 f.2
field_fault vs k ks kinds p ps pieces place (BadText n) a ke pe ne f = bad_here kind.Text vs k ks kinds p ps pieces n a ke pe (f.0 ∙ ne) f.1 f.2
field_fault vs k ks kinds p ps pieces place Memory a ke pe ne f = tt

-- the kinds before a place, the one there, and those after it
pub kinds_split : (vs : List Value) (kinds : List Kind) (at : ℕ) (d : Kind) → at < length kinds → map kind_of vs ≡ take at kinds → kinds ≡ map kind_of vs ++ get_or kinds at d ∷ drop (suc at) kinds
kinds_split vs kinds at d l e = split_at kinds at d l ∙ ap (λ ks. ks ++ get_or kinds at d ∷ drop (suc at) kinds) (sym e)

-- a record of values that were read from a line's pieces
pub record_read : (schema : Schema) (line piece : List ℕ) (rest : List (List ℕ)) (key : Value) (fields : List Value) → pieces_in line ≡ piece ∷ rest → IsRead schema.key piece key → AreRead schema.fields rest fields → IsRecordOf schema (record { key = key; fields = fields }) × (line ≡ join_with_byte 9 (value_text key ∷ map value_text fields))
record_read schema line piece rest key fields e k f =
    let ks = k.spelling in
    let fs = f.spelling in
    let pieces : pieces_in line ≡ value_text key ∷ map value_text fields = cc in (
      record { key = k.good; fields = f.good; fits = record { key = k.same_kind; fields = f.same_kinds } },
      sym (join_with_byte-slice_split 9 line) ∙ ap (join_with_byte 9) pieces,
    )

-- a line's record is what it is read as, unless memory runs out
pub only_record : (schema : Schema) (line : List ℕ) (r : Result Record LineFault) → IfOk r (λ row. IsRecordOf schema row × (line ≡ line_of row)) → IfErr r (HasFault schema line) → (row : Record) → IsRecordOf schema row → line ≡ line_of row → MatchResult r (λ found. found ≡ row) (λ fault. fault ≡ Memory)
only_record schema line (Ok found) ok err row g e = one_record schema found row ok.0 g (sym ok.1 ∙ e)
only_record schema line (Err fault) ok err row g e = no_fault schema row fault g (subst (λ (l : List ℕ). HasFault schema l fault) e err)

same_rows : (schema : Schema) (xs ys : List Record) → AllByRecursion (IsRecordOf schema) xs → AllByRecursion (IsRecordOf schema) ys → map line_of xs ≡ map line_of ys → xs ≡ ys
same_rows schema [] [] g h e = refl
same_rows schema [] (y ∷ ys) g h e = cc
same_rows schema (x ∷ xs) [] g h e = cc
same_rows schema (x ∷ xs) (y ∷ ys) g h e =
    let s : x ≡ y = one_record schema x y g.0 h.0 (cc) in
    let t : xs ≡ ys = same_rows schema xs ys g.1 h.1 (cc) in cc

-- a line among those of records is the line of one
reached : (schema : Schema) (xs ys : List Record) (line : List ℕ) (more : List (List ℕ)) → AllByRecursion (IsRecordOf schema) ys → map line_of xs ++ line ∷ more ≡ map line_of ys → (row : Record) × IsRecordOf schema row × (line ≡ line_of row)
reached schema [] [] line more g e = cc
reached schema [] (y ∷ ys) line more g e = (y, g.0, cc)
reached schema (x ∷ xs) [] line more g e = cc
reached schema (x ∷ xs) (y ∷ ys) line more g e = reached schema xs ys line more g.1 (cc)

longer : (xs ys : List Record) (line : List ℕ) (more : List (List ℕ)) → map line_of xs ++ line ∷ more ≡ map line_of ys → length xs < length ys
longer xs ys line more e = omega (arith, ap length e, length-append (map line_of xs) (line ∷ more), same_length line_of xs, same_length line_of ys)

faulty : (schema : Schema) (line : List ℕ) (what : LineFault) (row : Record) → IsRecordOf schema row → line ≡ line_of row → HasFault schema line what → what ≡ Memory
faulty schema line what row g e f = no_fault schema row what g (subst (λ (l : List ℕ). HasFault schema l what) e f)

-- the table that a file stands for is what it is read as, unless memory runs out
pub only_table : (schema : Schema) (bytes : List ℕ) (r : Result (List Record) TableFault) → IfOk r (StandsFor schema bytes) → IfErr r (HasTableFault schema bytes) → (rows : List Record) → StandsFor schema bytes rows → MatchResult r (λ found. found ≡ rows) (λ fault. fault ≡ table.Memory)
only_table schema bytes (Ok found) ok err rows s = same_rows schema found rows ok.records s.records (sym ok.lines ∙ s.lines)
only_table schema bytes (Err (table.Line number what)) ok err rows s =
    let e = sym err.goes_on.lines ∙ s.lines in
    let r = reached schema err.rows rows err.next err.goes_on.more s.records e in
    absurd (err.named (faulty schema err.next what r.0 r.1 r.2 err.fault))
only_table schema bytes (Err (table.TooMany number)) ok err rows s =
    let l = longer err.rows rows err.next err.goes_on.more (sym err.goes_on.lines ∙ s.lines) in
    let f = err.full in
    let few = s.few in absurd (omega arith)
only_table schema bytes (Err table.Memory) ok err rows s = refl

pub read_so_far : (vs : List Value) (kinds : List Kind) (at : ℕ) → at ≤ length kinds → map kind_of vs ≡ take at kinds → at + 1 ≡ suc (length vs)
read_so_far vs kinds at l e = omega (arith, ap length e, same_length kind_of vs, length-take at kinds)
