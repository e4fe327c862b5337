-- The reader of whole programs is right.
use Rattle.std.proofs.Common.{List, [], ap, append_assoc, codes, refl, sym, ◌++◌, ◌||◌, ◌∙◌, ◌∷◌, ◌≡◌}
use Rattle.program_tokens.specs.steps.Front.{is_plain}
use Rattle.program_tokens.specs.Pieces.{Piece, end, name, plain}
use Rattle.function_language.specs.steps.Reading.{begins_function}
use Rattle.function_language.specs.Spelled.{function_pieces, functions_pieces}
use Rattle.function_language.specs.declared.tree.Function.{Function}
use Rattle.function_language.specs.declared.tree.Function.TheVariants.{Distance, Map, Partition, Reduce}
use Rattle.program_tokens.specs.declared.token.Ident.{Ident}
use Rattle.program_tokens.proofs.Right.{Exactly, Right}
use Rattle.program_tokens.proofs.Choices.{Not}
use Rattle.program_tokens.proofs.Firsts.{Free, Heads, Stopping, begins_follows, heads_append}
use Rattle.program_tokens.proofs.OneToken.{end_right}
use Rattle.program_tokens.proofs.Parts.{exactly, free_part, last_part, made_begins, part}
use Rattle.program_tokens.proofs.Avoiding.{Avoids, Unseen, plain_avoids}
use Rattle.function_language.proofs.GrammarFunctions.{functions_right}
use Rattle.program_sketch.specs.steps.Reading.{program, sketch_of, whole_program}
use Rattle.program_sketch.specs.Spelled.{head_pieces, program_pieces, steps_pieces, tables_pieces}
use Rattle.program_sketch.specs.declared.reader.Head.{Head}
use Rattle.program_sketch.specs.declared.sketch.Sketch.{Sketch}
use Rattle.program_sketch.specs.declared.sketch.StepSketch.{StepSketch}
use Rattle.program_sketch.specs.declared.sketch.TableSketch.{TableSketch}
use Rattle.program_sketch.proofs.GrammarCaches.{NoCache}
use Rattle.program_sketch.proofs.GrammarHeads.{head_of, head_right}
use Rattle.program_sketch.proofs.GrammarLines.{ident_line_pieces, ident_line_right}
use Rattle.program_sketch.proofs.GrammarSteps.{steps_right}
use Rattle.program_sketch.proofs.GrammarTables.{tables_right}

-- a program, but for the end of its text
abbrev pub inner_pieces : Sketch → List Piece
inner_pieces sketch = head_pieces sketch ++ tables_pieces sketch.tables ++ functions_pieces sketch.functions ++ plain (codes "begin") ∷ name sketch.start ∷ plain (codes ";") ∷ steps_pieces sketch.steps

-- ---- what its parts are

-- behind the functions: the table of the start, and the steps
abbrev StartParts : Type 0
StartParts = Ident × List StepSketch

-- behind the tables
abbrev OwnParts : Type 0
OwnParts = List Function × StartParts

-- behind the head
abbrev BodyParts : Type 0
BodyParts = List TableSketch × OwnParts

-- a program of its parts
abbrev made_program : Head × BodyParts → Sketch
made_program c = sketch_of c.0 c.1.0 c.1.1.0 c.1.1.1.0 c.1.1.1.1

-- the start and the steps
abbrev start_pieces : StartParts → List Piece
start_pieces c = ident_line_pieces (codes "begin") c.0 ++ steps_pieces c.1

-- the functions, and these
abbrev own_pieces : OwnParts → List Piece
own_pieces c = functions_pieces c.0 ++ start_pieces c.1

-- the tables, and these
abbrev body_pieces : BodyParts → List Piece
body_pieces c = tables_pieces c.0 ++ own_pieces c.1

-- the head of a program
abbrev head_in : Sketch → Head
head_in s = record { name = s.name; parts = s.parts; rounds = s.rounds; stop = s.stop; asked = s.asked }

-- the parts, one after another, are spelled as the program
program_spelled : (c : Head × BodyParts) → head_of c.0 ++ body_pieces c.1 ≡ inner_pieces (made_program c)
program_spelled c = sym (
    append_assoc (head_of c.0 ++ tables_pieces c.1.0) (functions_pieces c.1.1.0) (start_pieces c.1.1.1)
    ∙ append_assoc (head_of c.0) (tables_pieces c.1.0) (own_pieces c.1.1))

-- ---- what stops each of them

-- the start begins no function
begin_begins_none : Stopping (Not begins_function) (plain (codes "begin"))
begin_begins_none token tokens fits =
    ap (λ l. is_plain (codes "map") l || is_plain (codes "reduce") l || is_plain (codes "distance") l || is_plain (codes "partition") l) fits

-- a function begins no table
function_no_table : (f : Function) → Heads (Avoids (codes "table")) (function_pieces f)
function_no_table (Map i ps arrow out body) = plain_avoids (codes "map") (codes "table") refl
function_no_table (Reduce i key ss arrow out body) = plain_avoids (codes "reduce") (codes "table") refl
function_no_table (Distance i key before after body) = plain_avoids (codes "distance") (codes "table") refl
function_no_table (Partition i key body) = plain_avoids (codes "partition") (codes "table") refl

-- what stands behind the tables begins no table
own_no_table : (fs : List Function) (c : StartParts) → Heads (Avoids (codes "table")) (own_pieces (fs, c))
own_no_table [] c = plain_avoids (codes "begin") (codes "table") refl
own_no_table (f ∷ fs) c = heads_append (Avoids (codes "table")) (functions_pieces (f ∷ fs)) (start_pieces c) (heads_append (Avoids (codes "table")) (function_pieces f) (functions_pieces fs) (function_no_table f))

-- what stands behind the head asks for no cache
body_no_cache : (ts : List TableSketch) (c : OwnParts) → Heads (Avoids (codes "cache")) (body_pieces (ts, c))
body_no_cache [] c = λ token tokens fits. absurd fits
body_no_cache (t ∷ ts) c = plain_avoids (codes "table") (codes "cache") refl

-- ---- programs

-- a program, but for the end
pub inner_right : Right (Exactly inner_pieces) (Unseen (codes "step")) program
unfolding program
inner_right = exactly inner_pieces (λ s. (head_in s, (s.tables, (s.functions, (s.start, s.steps))))) (λ s. refl) program_spelled
    (part {make = made_program} {others = body_pieces} head_right
    (λ top. part {others = own_pieces} tables_right
    (λ all. part {others = start_pieces} functions_right
    (λ own. free_part (ident_line_right (codes "begin") Free) (λ start. last_part (λ order. made_program (top, (all, (own, (start, order))))) steps_right))
    (λ own. begins_follows _ (Unseen (codes "step")) (Not begins_function) (made_begins (Stopping (Not begins_function)) (λ c. begin_begins_none))))
    (λ all. begins_follows _ (Unseen (codes "step")) (Unseen (codes "table")) (made_begins (Avoids (codes "table")) (λ c. own_no_table c.0 c.1))))
    (λ top. begins_follows _ (Unseen (codes "step")) NoCache (made_begins (Avoids (codes "cache")) (λ c. body_no_cache c.0 c.1))))

-- the end is no step
end_no_step : Stopping (Unseen (codes "step")) end
end_no_step token tokens fits = ap (is_plain (codes "step")) fits

-- a program, to the end of its text
pub program_right : Right (Exactly program_pieces) Free whole_program
unfolding whole_program
program_right = exactly program_pieces (λ s. (s, tt)) (λ s. refl) (λ c. refl)
    (part {make = λ (c : Sketch × Unit {0}). c.0} inner_right (λ s. last_part (λ _. s) (end_right Free))
    (λ s. begins_follows _ Free (Unseen (codes "step")) (made_begins (Stopping (Unseen (codes "step"))) (λ _. end_no_step))))
