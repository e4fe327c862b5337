-- A line and the record whose line it is.
use Rattle.std.proofs.Common.{◌≡◌, ℕ, zero, suc, ◌<◌, ◌≤◌, false, nat_eq, List, [], ◌∷◌, ◌++◌, refl, sym, ap, subst, ◌∙◌, map, length, arith, append_assoc, append-nil, drop, ◌-◌}
use Rattle.std.proofs.Math.ListN.{drop_of_length-le}
use Rattle.std.specs.List.{AllByRecursion, flat_map, join_with_byte}
use Rattle.std.specs.Str.Lines.{strip_carriage_return}
use Rattle.hal_base.specs.declared.value.Kind.{Kind}
use Rattle.hal_base.specs.declared.value.Kind.TheVariants as kind
use Rattle.hal_base.specs.declared.value.Value.{Value}
use Rattle.hal_base.specs.declared.record.Record.{Record}
use Rattle.hal_base.specs.declared.fields.Schema.{Schema}
use Rattle.hal_base.specs.declared.line.LineFault.{LineFault}
use Rattle.hal_base.specs.declared.line.LineFault.TheVariants.{FieldCount, BadNumber, BadText, Memory}
use Rattle.hal_base.specs.Values.{kind_of, IsValue, IsRecordOf}
use Rattle.hal_base.specs.Lines.{value_text, pieces_of, line_of, table_text, lines_in, TextStandsForTable}
use Rattle.hal_base.specs.LineFaults.{Spelled, FirstBad, HasFault, pieces_in}
use Rattle.hal_base.proofs.Cuts.{Without, lines_at_end, never_there}
use Rattle.hal_base.proofs.Spellings.{value_plain, values_plain, split_joined, joined_without, same_value, same_values}

pub pieces_back : (schema : Schema) (row : Record) → IsRecordOf schema row → pieces_in (line_of row) ≡ pieces_of row
pieces_back schema row g = split_joined (value_text row.key) (map value_text row.fields) (value_plain row.key g.key) (values_plain row.fields g.fields)

abbrev made : Value → List Value → Record
made k fields = record { key = k; fields = fields }

-- two records of one schema with one line are one record
pub one_record : (schema : Schema) (a b : Record) → IsRecordOf schema a → IsRecordOf schema b → line_of a ≡ line_of b → a ≡ b
one_record schema a b g h e =
    let p : pieces_of a ≡ pieces_of b = sym (pieces_back schema a g) ∙ ap pieces_in e ∙ pieces_back schema b h in
    let k : a.key ≡ b.key = same_value a.key b.key g.key h.key (g.fits.key ∙ sym h.fits.key) (cc) in
    let f : a.fields ≡ b.fields = same_values a.fields b.fields g.fields h.fields (g.fits.fields ∙ sym h.fits.fields) (cc) in
    ap (λ x. made x a.fields) k ∙ ap (λ xs. made b.key xs) f

none_bad : (bad : Kind) (vs : List Value) (n : ℕ) → AllByRecursion IsValue vs → FirstBad bad (map kind_of vs) (map value_text vs) n → ⊥
none_bad bad [] n a f = f
none_bad bad (v ∷ vs) zero a f = f.1 (record { value = v; good = a.0; same_kind = refl; spelling = refl })
none_bad bad (v ∷ vs) (suc n) a f = none_bad bad vs n a.1 f.1

pub same_length : {A B : Type 0} (f : A → B) (xs : List A) → length (map f xs) ≡ length xs
same_length f [] = refl
same_length f (x ∷ xs) = ap suc (same_length f xs)

bad_piece : (schema : Schema) (row : Record) (bad : Kind) (n : ℕ) → IsRecordOf schema row → FirstBad bad (schema.key ∷ schema.fields) (pieces_in (line_of row)) n → ⊥
bad_piece schema row bad n g f =
    let k = g.fits.key in
    let ks = g.fits.fields in
    let kinds : map kind_of (row.key ∷ row.fields) ≡ schema.key ∷ schema.fields = cc in
    none_bad bad (row.key ∷ row.fields) n (g.key, g.fields) (subst (λ (xs : List Kind). FirstBad bad xs (pieces_of row) n) (sym kinds) (subst (λ (ps : List (List ℕ)). FirstBad bad (schema.key ∷ schema.fields) ps n) (pieces_back schema row g) f))

-- the line of a record has no fault
pub no_fault : (schema : Schema) (row : Record) (fault : LineFault) → IsRecordOf schema row → HasFault schema (line_of row) fault → fault ≡ Memory
no_fault schema row FieldCount g f =
    absurd (f (ap length (pieces_back schema row g) ∙ ap suc (same_length value_text row.fields ∙ sym (same_length kind_of row.fields) ∙ ap length g.fits.fields) ∙ omega arith))
no_fault schema row (BadNumber n) g f = absurd (bad_piece schema row kind.Int n g f.1)
no_fault schema row (BadText n) g f = absurd (bad_piece schema row kind.Text n g f.1)
no_fault schema row Memory g f = refl

-- the pieces before one that is bad are spelled
pub first_bad : (bad : Kind) (vs : List Value) (k : Kind) (ks : List Kind) (p : List ℕ) (ps : List (List ℕ)) → AllByRecursion IsValue vs → k ≡ bad → (Spelled k p → ⊥) → FirstBad bad (map kind_of vs ++ k ∷ ks) (map value_text vs ++ p ∷ ps) (length vs)
first_bad bad [] k ks p ps a e n = (e, n)
first_bad bad (v ∷ vs) k ks p ps a e n = (record { value = v; good = a.0; same_kind = refl; spelling = refl }, first_bad bad vs k ks p ps a.1 e n)

line_without : (c : ℕ) (schema : Schema) (row : Record) → c < 32 → nat_eq 9 c ≡ false → IsRecordOf schema row → Without c (line_of row)
line_without c schema row l e g = joined_without c (value_text row.key) (map value_text row.fields) l e (value_plain row.key g.key) (values_plain row.fields g.fields)

kept : (line : List ℕ) → Without 13 line → strip_carriage_return line ≡ line
kept line w = rw (never_there 13 line (length line - 1) refl w)

lines_back : (schema : Schema) (rows : List Record) → AllByRecursion (IsRecordOf schema) rows → map strip_carriage_return (lines_in (table_text rows)) ≡ map line_of rows
lines_back schema [] g = refl
lines_back schema (row ∷ rows) g =
    let e : lines_in (table_text (row ∷ rows)) ≡ line_of row ∷ lines_in (table_text rows) = ap lines_in (append_assoc (line_of row) (10 ∷ []) (table_text rows)) ∙ lines_at_end (line_of row) (table_text rows) (line_without 10 schema row (omega arith) refl g.0) in
    let k = kept (line_of row) (line_without 13 schema row (omega arith) refl g.0) in
    let t = lines_back schema rows g.1 in
    ap (map strip_carriage_return) e ∙ ap (λ l. l ∷ map strip_carriage_return (lines_in (table_text rows))) k ∙ ap (λ ls. line_of row ∷ ls) t

pub text_stands : TextStandsForTable
text_stands schema rows g l = record { lines = lines_back schema rows g; records = g; few = l }

-- the line is the key's text, and a tab and the text of each field
pub line_parts : (key : Value) (fields : List Value) → join_with_byte 9 (map value_text (key ∷ fields)) ≡ value_text key ++ flat_map (λ v. 9 ∷ value_text v) fields
line_parts key [] = sym (append-nil (value_text key))
line_parts key (v ∷ vs) = ap (λ bytes. value_text key ++ (9 ∷ bytes)) (line_parts v vs)

-- a pass that adds a text for each item, at its end
pub whole : (f : Value → List ℕ) (out before : List ℕ) (xs : List Value) (i : ℕ) → length xs ≤ i → out ++ flat_map f (drop i xs) ≡ before ++ flat_map f xs → out ≡ before ++ flat_map f xs
whole f out before xs i l e = sym (append-nil out) ∙ ap (λ ys. out ++ flat_map f ys) (sym (drop_of_length-le xs l)) ∙ e
