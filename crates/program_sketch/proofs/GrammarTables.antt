-- The readers of tables are right.
use Rattle.std.proofs.Common.{Err, List, [], codes, false, refl, subst, sym, ℕ, ◌++◌, ◌∷◌, ◌≡◌}
use Rattle.hal_base.specs.declared.value.Kind.{Kind}
use Rattle.program_tokens.specs.steps.Front.{sees}
use Rattle.program_tokens.specs.declared.token.Token.{Token}
use Rattle.program_tokens.specs.steps.Parsers.{expect, here, pure, quoted, ◌>>=◌, ◌>>◌}
use Rattle.program_tokens.specs.Pieces as piece
use Rattle.program_tokens.specs.Pieces.{Piece, name, plain}
use Rattle.program_tokens.specs.steps.Parsers.{kinds}
use Rattle.program_tokens.specs.Pieces.{kinds_pieces}
use Rattle.program_tokens.specs.declared.token.Ident.{Ident}
use Rattle.program_tokens.proofs.Right.{Exactly, Right, RightAt, Spells, Stops}
use Rattle.program_tokens.proofs.Firsts.{Free}
use Rattle.program_tokens.proofs.OneToken.{ident_right, quoted_right, text_of_line}
use Rattle.program_tokens.proofs.Parts.{Made, exactly, free_part, last_word, word_then}
use Rattle.program_tokens.proofs.Avoiding.{Unseen, refused_unseen}
use Rattle.program_tokens.proofs.Many.{first_and_repeated}
use Rattle.program_tokens.proofs.KindReaders.{kinds_right}
use Rattle.program_sketch.specs.steps.Reading.{table, tables}
use Rattle.program_sketch.specs.Spelled.{table_pieces, tables_pieces}
use Rattle.program_sketch.specs.declared.sketch.TableSketch.{TableSketch}

-- a file's name and its line, and the kinds
abbrev FileParts : Type 0
FileParts = (List ℕ × ℕ) × (List Kind × Unit {0})

-- a table of its parts
abbrev made_table : Ident × FileParts → TableSketch
made_table c = record { name = c.0; file = c.1.0.0; line = c.1.0.1; row = record { kinds = c.1.1.0 } }

-- what stands behind a table's name
abbrev WithFile : Ident → Spells TableSketch
WithFile i = Made {C = FileParts} (λ c. made_table (i, c)) (λ c. piece.quoted c.0.0 c.0.1 ∷ (kinds_pieces c.1.0 ++ plain (codes ";") ∷ []))

-- that is read right
file_right : (stops : Stops) (i : Ident) → Right (WithFile i) stops (here >>= λ line. quoted >>= λ file. kinds >>= λ row. expect (codes ";") >> pure (made_table (i, ((file, line), (row, tt)))))
file_right stops i ts =
    subst (RightAt (WithFile i) stops ts) (sym (text_of_line (λ file line. kinds >>= λ row. expect (codes ";") >> pure (made_table (i, ((file, line), (row, tt))))) ts))
    (free_part {make = λ (c : FileParts). made_table (i, c)} (quoted_right Free) (λ file. free_part (kinds_right Free) (λ row. last_word (codes ";") stops (made_table (i, (file, (row, tt)))))) ts)

-- a table
pub table_right : (stops : Stops) → Right (Exactly table_pieces) stops table
unfolding table
table_right stops = exactly table_pieces (λ t. (t.name, ((t.file, t.line), (t.row.kinds, tt)))) (λ t. refl) (λ c. refl)
    (word_then (codes "table") (free_part {make = made_table} (ident_right Free) (file_right stops)))

-- a table is something
pub table_some : (t : TableSketch) → table_pieces t ≡ [] → ⊥
table_some t e = cc

-- where no table begins, none is read
table_refused : (ts : List Token) → sees (codes "table") ts ≡ false → table ts ≡ Err ts
unfolding table
table_refused ts e = refused_unseen (codes "table") _ ts e

-- tables
pub tables_right : Right (Exactly tables_pieces) (Unseen (codes "table")) tables
unfolding tables
tables_right = first_and_repeated table_pieces (sees (codes "table")) table (table_right Free) table_some table_refused table_pieces tables_pieces (λ token fits. fits) (λ t ts. refl) table (table_right Free)
