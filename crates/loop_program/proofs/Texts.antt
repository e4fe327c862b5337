-- The program of a text, and what is wrong with one.
use Rattle.std.proofs.Common.{Ok, Err, IfErr, IfOk, Result, List, Some, None, ℕ, ◌≡◌, inl, inr, sym, subst, ◌∙◌}
use Rattle.type_checker.specs.declared.fault.TypeFault.{TypeFault}
use Rattle.type_checker.specs.declared.fault.TypeFault.TheVariants as fault
use Rattle.type_checker.specs.Checked.{Checked, fine}
use Rattle.program_sketch.specs.declared.fault.ProgramFault.{ProgramFault}
use Rattle.program_sketch.specs.declared.fault.ProgramFault.TheVariants.{At, Memory}
use Rattle.program_sketch.specs.declared.fault.What.{What}
use Rattle.program_sketch.specs.declared.sketch.Sketch.{Sketch}
use Rattle.program_sketch.specs.Programs.{IsMisspelled, IsNotRead, IsProgramText}
use Rattle.program_sketch.specs.Programs as spelling
use Rattle.loop_program.specs.Found.{Found}
use Rattle.loop_program.specs.Programs.{HasWrong, IsFaulty, IsJustProgram, IsRefusedBy, IsTextOfProgram, OneThingIsWrong, accepted}
use Rattle.loop_program.specs.steps.Tells.{FaultIs, IsFound, Tells}
use Rattle.loop_program.specs.Whole.{Whole}
use Rattle.loop_program.specs.Types.{AreRight, HasFirst, IsSaid, as_typed}
use Rattle.program_sketch.proofs.Programs.{not_misspelled, one_misspelling, one_program}

-- ---- faults of functions

-- a fault of functions is said in one way
one_said : (found : TypeFault) (line other : ℕ) (what wrong : What) → IsSaid found line what → IsSaid found other wrong → (other ≡ line) × (wrong ≡ what)
one_said (fault.WrongKind function at want got) line other what wrong s t = (t.0 ∙ sym s.0, t.1 ∙ sym s.1)
one_said (fault.UnknownName function at) line other what wrong s t = (t.0 ∙ sym s.0, t.1 ∙ sym s.1)
one_said (fault.WrongCount function at) line other what wrong s t = (t.0 ∙ sym s.0, t.1 ∙ sym s.1)
one_said (fault.EmitMismatch function at) line other what wrong s t = (t.0 ∙ sym s.0, t.1 ∙ sym s.1)
one_said (fault.DoubleName function at) line other what wrong s t = (t.0 ∙ sym s.0, t.1 ∙ sym s.1)
one_said (fault.StreamMismatch function at) line other what wrong s t = (t.0 ∙ sym s.0, t.1 ∙ sym s.1)
one_said fault.Memory line other what wrong s t = absurd s

-- ---- the first fault of a program

some_none : {n : ℕ} → None ≡ Some n → ⊥
some_none e = cc

some_same : {n m : ℕ} → Some n ≡ Some m → n ≡ m
some_same e = cc

err_same : {f g : TypeFault} {found : Checked (Unit {0})} → found ≡ Err f → found ≡ Err g → f ≡ g
err_same e d = cc

fine_err : {f : TypeFault} {found : Checked (Unit {0})} → found ≡ fine → found ≡ Err f → ⊥
fine_err e d = cc

-- a program has one first fault of names and kinds
one_first : (sketch : Sketch) (line other : ℕ) (what wrong : What) → HasFirst sketch line what → HasFirst sketch other wrong → (other ≡ line) × (wrong ≡ what)
one_first sketch line other what wrong (inl f) (inl g) = (some_same (sym g.0 ∙ f.0), g.1 ∙ sym f.1)
one_first sketch line other what wrong (inl f) (inr g) = absurd (some_none (sym g.0 ∙ f.0))
one_first sketch line other what wrong (inr f) (inl g) = absurd (some_none (sym f.0 ∙ g.0))
one_first sketch line other what wrong (inr f) (inr g) =
    one_said f.1 line other what wrong f.3 (subst (λ (found : TypeFault). IsSaid found other wrong) (err_same g.2 f.2) g.3)

-- a program whose names and kinds are right has none
right_first : (sketch : Sketch) (line : ℕ) (what : What) → AreRight sketch → HasFirst sketch line what → ⊥
right_first sketch line what r (inl f) = some_none (sym r.tables ∙ f.0)
right_first sketch line what r (inr f) = fine_err r.functions f.2

found_one : {A : Type 0} {found : Found A} {line other : ℕ} {what wrong : What} → found ≡ Err (At line what) → found ≡ Err (At other wrong) → (other ≡ line) × (wrong ≡ what)
found_one e d = (cc, cc)

found_none : {A : Type 0} {found : Found A} {a : A} {line : ℕ} {what : What} → found ≡ Ok a → found ≡ Err (At line what) → ⊥
found_none e d = cc

found_same : {A : Type 0} {found : Found A} {a b : A} → found ≡ Ok a → found ≡ Ok b → b ≡ a
found_same e d = cc

-- a program has one first fault
one_fault : (sketch : Sketch) (line other : ℕ) (what wrong : What) → IsFaulty sketch line what → IsFaulty sketch other wrong → (other ≡ line) × (wrong ≡ what)
one_fault sketch line other what wrong (inl f) (inl g) = one_first sketch line other what wrong f g
one_fault sketch line other what wrong (inl f) (inr g) = absurd (right_first sketch line what g.0 f)
one_fault sketch line other what wrong (inr f) (inl g) = absurd (right_first sketch other wrong f.0 g)
one_fault sketch line other what wrong (inr f) (inr g) = found_one f.1 g.1

-- a program that is accepted has none
accepted_fault : (sketch : Sketch) (program : Whole) (line : ℕ) (what : What) → AreRight sketch → accepted (as_typed sketch) ≡ Ok program → IsFaulty sketch line what → ⊥
accepted_fault sketch program line what r a (inl f) = right_first sketch line what r f
accepted_fault sketch program line what r a (inr f) = found_none a f.1

-- ---- texts

-- what holds for the program of a text holds for each program that its text is that of
for_one : (P : Sketch → Type 0) (text : List ℕ) (some other : Sketch) → IsProgramText text some → IsProgramText text other → P other → P some
for_one P text some other p q h = subst P (one_program text other some q p) h

-- one thing is wrong with a text, in one line
pub one_wrong : OneThingIsWrong
one_wrong text line other what wrong (inl w) (inl v) = one_misspelling text line other what wrong w v
one_wrong text line other what wrong (inl w) (inr v) = absurd (not_misspelled text v.0 v.1 line what w)
one_wrong text line other what wrong (inr w) (inl v) = absurd (not_misspelled text w.0 w.1 other wrong v)
one_wrong text line other what wrong (inr w) (inr v) =
    one_fault w.0 line other what wrong w.2 (for_one (λ (sketch : Sketch). IsFaulty sketch other wrong) text w.0 v.0 w.1 v.1 v.2)

-- with the text of a program that is accepted nothing is wrong
right_text : (text : List ℕ) (program : Whole) (line : ℕ) (what : What) → IsTextOfProgram text program → HasWrong text line what → ⊥
right_text text program line what t (inl w) = not_misspelled text t.0 t.1 line what w
right_text text program line what t (inr w) =
    accepted_fault t.0 program line what t.2 t.3 (for_one (λ (sketch : Sketch). IsFaulty sketch line what) text t.0 w.0 t.1 w.1 w.2)

-- the program of a text
of_text : (text : List ℕ) (sketch : Sketch) (program : Whole) → spelling.IsJustProgram text sketch → AreRight sketch → accepted (as_typed sketch) ≡ Ok program → IsTextOfProgram text program
of_text text sketch program p r a = (sketch, p.is, r, a)

-- the program that was accepted is the only one
just_program : (text : List ℕ) (sketch : Sketch) (program : Whole) → spelling.IsJustProgram text sketch → AreRight sketch → accepted (as_typed sketch) ≡ Ok program → IsJustProgram text program
just_program text sketch program p r a = record {
  is = of_text text sketch program p r a;
  only = λ other q. found_same a (subst (λ (s : Sketch). accepted (as_typed s) ≡ Ok other) (p.only q.0 q.1) q.3);
  right = λ line what w. right_text text program line what (of_text text sketch program p r a) w;
}

wrong_refuses : (text : List ℕ) (line : ℕ) (what : What) → HasWrong text line what → IsRefusedBy text (At line what)
wrong_refuses text line what w = (w, λ program t. right_text text program line what t w)

-- a text that is not read is refused for it
pub not_read_refused : (text : List ℕ) (it : ProgramFault) → IsNotRead text it → IsRefusedBy text it
not_read_refused text (At line what) n = wrong_refuses text line what (inl n.0)
not_read_refused text Memory n = tt

-- the first fault of names and kinds refuses it
pub fault_refused : (text : List ℕ) (sketch : Sketch) (it : ProgramFault) → spelling.IsJustProgram text sketch → FaultIs sketch it → IsRefusedBy text it
fault_refused text sketch (At line what) p f = wrong_refuses text line what (inr (sketch, p.is, inl f))
fault_refused text sketch Memory p f = tt

-- and so does the first fault behind it
found_refused : (text : List ℕ) (sketch : Sketch) (it : ProgramFault) → spelling.IsJustProgram text sketch → AreRight sketch → IsFound (accepted (as_typed sketch)) it → IsRefusedBy text it
found_refused text sketch (At line what) p r f = wrong_refuses text line what (inr (sketch, p.is, inr (r, f)))
found_refused text sketch Memory p r f = tt

-- what comes of a program whose names and kinds are right
pub what_is_read : (text : List ℕ) (sketch : Sketch) (result : Result Whole ProgramFault) → spelling.IsJustProgram text sketch → AreRight sketch → Tells (accepted (as_typed sketch)) result → IfOk result (IsJustProgram text) × IfErr result (IsRefusedBy text)
what_is_read text sketch (Ok program) p r t = (just_program text sketch program p r t, tt)
what_is_read text sketch (Err fault) p r t = (tt, found_refused text sketch fault p r t)
