-- What the reader of whole programs comes to for the tokens of a text.
use Rattle.std.proofs.Common.{Err, [], codes, ◌++◌, ◌∷◌, List, Ok, ℕ, ◌≡◌, ◌≢◌, ◌<◌, ◌≤◌, inl, inr, true, false, sym, ◌∙◌, arith}
use Rattle.program_tokens.specs.steps.Front.{at_end, line_of}
use Rattle.program_tokens.specs.Tokens.{AreTokensOf}
use Rattle.program_tokens.specs.declared.token.Token.{Token}
use Rattle.program_tokens.proofs.Lists.{one_list}
use Rattle.program_tokens.specs.declared.fault.SyntaxFault.{SyntaxFault}
use Rattle.program_tokens.specs.declared.fault.SyntaxFault.TheVariants.{At, Memory}
use Rattle.program_tokens.specs.Pieces.{end, name, plain}
use Rattle.function_language.specs.Spelled.{CanBeSpelled, functions_pieces}
use Rattle.program_tokens.specs.Pieces.{IsPlace}
use Rattle.program_tokens.specs.Texts.{HasFaultAt, IsOfOneTree, IsTextOf, Refuses}
use Rattle.program_tokens.proofs.Ended.{ended_read, fault_refused, unended_refused}
use Rattle.program_tokens.proofs.Places.{all_back, all_front, text_places}
use Rattle.program_tokens.proofs.Whole as of_texts
use Rattle.program_sketch.specs.declared.fault.ProgramFault.TheVariants.{At as WrongAt}
use Rattle.program_sketch.specs.declared.fault.What.{What}
use Rattle.program_sketch.specs.Programs.{IsJustProgram, IsMisspelled, IsNotRead, IsProgramText, TextIsOfOneProgram}
use Rattle.program_sketch.specs.steps.Reading.{program, whole_program}
use Rattle.program_sketch.specs.Spelled.{head_pieces, program_pieces, steps_pieces, tables_pieces}
use Rattle.program_sketch.specs.declared.sketch.Sketch.{Sketch}
use Rattle.program_sketch.proofs.GrammarPrograms.{inner_pieces, program_right}
use Rattle.program_sketch.proofs.Inner.{inner, whole}

-- the functions of a text's program can be spelled
pub program_spelled : (text : List ℕ) (sketch : Sketch) → IsTextOf program_pieces text sketch → CanBeSpelled sketch.functions
program_spelled text sketch t =
    let above = head_pieces sketch ++ tables_pieces sketch.tables in
    let functions = functions_pieces sketch.functions in
    let below = plain (codes "begin") ∷ name sketch.start ∷ plain (codes ";") ∷ steps_pieces sketch.steps in
    let all = text_places program_pieces text sketch t in
    all_back IsPlace above functions (all_front IsPlace (above ++ functions) below (all_front IsPlace (above ++ functions ++ below) (end ∷ []) all))

-- a text is that of one program
pub program_is_one : IsOfOneTree program_pieces
program_is_one = of_texts.one_tree inner_pieces whole inner program_right one_list

-- a text with a fault is that of no program, and all its faults are in one line
pub fault_is_one : (text : List ℕ) (line : ℕ) → HasFaultAt program_pieces text line → ((sketch : Sketch) → IsTextOf program_pieces text sketch → ⊥) × ((other : ℕ) → HasFaultAt program_pieces text other → other ≡ line)
fault_is_one = of_texts.fault_is_one one_list

-- what was read, behind which the end comes, is the program of the text
pub whole_read : (text : List ℕ) (ts mid : List Token) (sketch : Sketch) → AreTokensOf text ts → program ts ≡ Ok (sketch, mid) → at_end mid ≡ true → IsTextOf program_pieces text sketch
unfolding whole_program
whole_read = ended_read inner_pieces whole inner program program_right

-- where the end was to come and does not, the text has its fault
pub whole_unended : (text : List ℕ) (ts mid : List Token) (sketch : Sketch) → AreTokensOf text ts → program ts ≡ Ok (sketch, mid) → at_end mid ≡ false → HasFaultAt program_pieces text (line_of mid)
unfolding whole_program
whole_unended = unended_refused inner_pieces whole inner program program_right

-- so it has where a fault came before
pub whole_refused : (text : List ℕ) (ts left : List Token) (f : SyntaxFault) → AreTokensOf text ts → (f ≢ Memory → (program ts ≡ Err left) × (f ≡ At (line_of left))) → Refuses program_pieces text f
unfolding whole_program
whole_refused = fault_refused inner_pieces whole inner program program_right

-- ---- texts that are not too long

pub one_program : TextIsOfOneProgram
one_program text some other a b = program_is_one text some other a.1 b.1

too_long : {n m : ℕ} → n ≤ m → m < n → ⊥
too_long l g = omega (arith, l, g)

-- a text is misspelled in one way, in one line
pub one_misspelling : (text : List ℕ) (line other : ℕ) (what wrong : What) → IsMisspelled text line what → IsMisspelled text other wrong → (other ≡ line) × (wrong ≡ what)
one_misspelling text line other what wrong (inl w) (inl v) = (v.2 ∙ sym w.2, v.0 ∙ sym w.0)
one_misspelling text line other what wrong (inl w) (inr v) = absurd (too_long v.1 w.1)
one_misspelling text line other what wrong (inr w) (inl v) = absurd (too_long w.1 v.1)
one_misspelling text line other what wrong (inr w) (inr v) = ((fault_is_one text line w.2).1 other v.2, v.0 ∙ sym w.0)

-- the text of a program is not misspelled
pub not_misspelled : (text : List ℕ) (sketch : Sketch) → IsProgramText text sketch → (line : ℕ) (what : What) → IsMisspelled text line what → ⊥
not_misspelled text sketch p line what (inl w) = too_long p.0 w.1
not_misspelled text sketch p line what (inr w) = (fault_is_one text line w.2).0 sketch p.1

-- the program that was read is the only one
pub just_program : (text : List ℕ) (sketch : Sketch) → IsProgramText text sketch → IsJustProgram text sketch
just_program text sketch p = record { is = p; only = λ other q. one_program text other sketch q p; right = not_misspelled text sketch p }

-- a text that is misspelled is not read
pub misspelled_refuses : (text : List ℕ) (line : ℕ) (what : What) → IsMisspelled text line what → IsNotRead text (WrongAt line what)
misspelled_refuses text line what w = (w, λ sketch p. not_misspelled text sketch p line what w)
