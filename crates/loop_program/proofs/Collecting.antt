-- Items found one after another, where none is a fault.
use Rattle.std.proofs.Common.{ℕ, ◌+◌, ◌-◌, ◌<◌, ◌≤◌, ◌≡◌, List, [], ◌∷◌, ◌++◌, Ok, Err, Some, None, Bool, cond, ap, append_assoc, arith, take, drop, get_or, length, refl, sym, ◌∙◌, slice_get}
use Rattle.std.specs.List.{list_all}
use native.Mathlib.Numerals.{unary_clauses}
use Rattle.std.proofs.lemmas.List.{drop_more, length-drop, take_all}
use Rattle.hal_base.specs.declared.fields.Schema.{Schema}
use Rattle.hal_base.specs.declared.shape.Shape.{Shape}
use Rattle.hal_base.specs.declared.shape.Source.{Source}
use Rattle.hal_base.specs.declared.shape.Step.{Step}
use Rattle.function_language.specs.declared.tree.Function.{Function}
use Rattle.program_sketch.specs.declared.fault.ProgramFault.{ProgramFault}
use Rattle.program_sketch.specs.declared.fault.ProgramFault.TheVariants.{At, Memory}
use Rattle.program_sketch.specs.declared.sketch.Asked.{Asked}
use Rattle.type_checker.specs.declared.uses.Uses.{Uses}
use Rattle.loop_program.specs.declared.places.NamedStep.{NamedStep}
use Rattle.type_checker.specs.Checked as found
use Rattle.loop_program.specs.Found.{Found, each}
use Rattle.loop_program.specs.Schemas.{last_line, last_schema, one_schema, same_schema, step_typed, steps_typed, schema_read}
use Rattle.loop_program.specs.steps.Tells.{IsFound}
use Rattle.loop_program.specs.Whole.{whole_of}

-- those found, and then these, where no fault is in them
abbrev pub behind : {B : Type 0} → List B → Found (List B) → Found (List B)
behind before (Ok more) = Ok (before ++ more)
behind before (Err fault) = Err fault

-- a fault that is found is that of a chain that begins with it
pub stops : {A B : Type 0} (r : Found A) (f : A → Found B) (fault : ProgramFault) → IsFound r fault → IsFound (found.◌>>=◌ r f) fault
stops r f (At line what) e = ap (λ r. found.◌>>=◌ r f) e
stops r f Memory e = tt

-- so it is where something was found before
pub stops_behind : {A B : Type 0} (r : Found A) (a : A) (f : A → Found B) (fault : ProgramFault) → r ≡ Ok a → IsFound (f a) fault → IsFound (found.◌>>=◌ r f) fault
stops_behind r a f (At line what) g e = ap (λ r. found.◌>>=◌ r f) g ∙ e
stops_behind r a f Memory g e = tt

-- a list that is not empty is its first item and the others
pub starts : {A : Type 0} (xs : List A) (x : A) → 1 ≤ length xs → x ≡ get_or xs 0 x → xs ≡ x ∷ drop 1 xs
starts xs x l g = drop_more xs 0 x l ∙ ap (λ y. y ∷ drop 1 xs) (sym g)

-- one more of those found
one_more : {B : Type 0} (before : List B) (b : B) (r : Found (List B)) → behind before (found.◌>>=◌ r (λ more. Ok (b ∷ more))) ≡ behind (before ++ b ∷ []) r
one_more before b (Ok more) = ap Ok (sym (append_assoc before (b ∷ []) more))
one_more before b (Err fault) = refl

module _ {A B : Type 0} (f : A → Found B) (xs : List A) (before : List B) (i : ℕ) (x : A) (l : i < length xs) (g : x ≡ get_or xs i x) (so_far : each f xs ≡ behind before (each f (drop i xs))) where
  from_here : each f xs ≡ behind before (each f (x ∷ drop (i + 1) xs))
  from_here = so_far ∙ ap (λ ys. behind before (each f ys)) (drop_more xs i x l ∙ ap (λ y. y ∷ drop (i + 1) xs) (sym g))

  -- a fault of the next one is that of all
  pub each_stops : (fault : ProgramFault) → IsFound (f x) fault → IsFound (each f xs) fault
  each_stops (At line what) e = from_here ∙ ap (λ r. behind before (found.◌>>=◌ r (λ y. found.◌>>=◌ (each f (drop (i + 1) xs)) (λ ys. Ok (y ∷ ys))))) e
  each_stops Memory e = tt

  -- what is found of the next one stands behind those before
  pub each_goes_on : (y : B) → f x ≡ Ok y → each f xs ≡ behind (before ++ y ∷ []) (each f (drop (i + 1) xs))
  each_goes_on y e =
      from_here ∙ ap (λ r. behind before (found.◌>>=◌ r (λ y. found.◌>>=◌ (each f (drop (i + 1) xs)) (λ ys. Ok (y ∷ ys))))) e
      ∙ one_more before y (each f (drop (i + 1) xs))

-- a step that is typed stands behind those before
pub steps_go_on : (functions : List Function) (tables : List Schema) (state output : Schema) (all : Found (List Step)) (before : List Step) (named : List NamedStep) (i : ℕ) (step : NamedStep) (typed : Step) → i < length named → step ≡ get_or named i step → all ≡ behind before (steps_typed functions tables state output (drop i named)) → step_typed functions (schema_read tables state output) step ≡ Ok typed → all ≡ behind (before ++ typed ∷ []) (steps_typed functions tables state typed.out (drop (i + 1) named))
steps_go_on functions tables state output all before named i step typed l g so_far e =
    so_far ∙ ap (λ steps. behind before (steps_typed functions tables state output steps)) (drop_more named i step l ∙ ap (λ s. s ∷ drop (i + 1) named) (sym g))
    ∙ ap (λ r. behind before (found.◌>>=◌ r (λ first. found.◌>>=◌ (steps_typed functions tables state first.out (drop (i + 1) named)) (λ others. Ok (first ∷ others))))) e
    ∙ one_more before typed (steps_typed functions tables state typed.out (drop (i + 1) named))

-- ---- the last of the steps

some_same : {A : Type 0} {a b : A} → Some a ≡ Some b → a ≡ b
some_same e = cc

pub last_schema_is : (before : Schema) (steps : List Step) (step : Step) → slice_get steps (length steps - 1) ≡ Some step → last_schema before steps ≡ step.out
last_schema_is before [] step e = absurd (no e)
  where
    no : slice_get [] 0 ≡ Some step → ⊥
    no e = cc
last_schema_is before (a ∷ []) step e = ap (λ (s : Step). s.out) (some_same e)
last_schema_is before (a ∷ b ∷ steps) step e = last_schema_is a.out (b ∷ steps) step (simp unary_clauses (simp unary_clauses at e))

pub last_line_is : (before : ℕ) (steps : List NamedStep) (step : NamedStep) → slice_get steps (length steps - 1) ≡ Some step → last_line before steps ≡ step.reduce.line
last_line_is before [] step e = absurd (no e)
  where
    no : slice_get [] 0 ≡ Some step → ⊥
    no e = cc
last_line_is before (a ∷ []) step e = ap (λ (s : NamedStep). s.reduce.line) (some_same e)
last_line_is before (a ∷ b ∷ steps) step e = last_line_is a.reduce.line (b ∷ steps) step (simp unary_clauses (simp unary_clauses at e))

-- ---- streams

-- the schema of all streams, where the others are alike or not
pub schema_of_all : (sources : List Source) (first : Source) (alike : Bool) → 1 ≤ length sources → first ≡ get_or sources 0 first → alike ≡ list_all (λ (source : Source). same_schema first.stream source.stream) (take (length sources - 1) (drop 1 sources)) → one_schema sources ≡ cond alike (Some first.stream) None
schema_of_all sources first alike l g a =
    let long : length (drop 1 sources) ≡ length sources - 1 = length-drop 1 sources in
    let others : take (length sources - 1) (drop 1 sources) ≡ drop 1 sources = take_all (length sources - 1) (drop 1 sources) (omega arith) in
    ap one_schema (starts sources first l g)
    ∙ ap (λ t. cond t (Some first.stream) None) (sym (a ∙ ap (list_all (λ (source : Source). same_schema first.stream source.stream)) others))

-- ---- a whole program

pub whole_same : (functions : List Function) (asked : Asked) {uses uses' : Uses} {shape shape' : Shape} {names names' files files' : List (List ℕ)} → uses ≡ uses' → shape ≡ shape' → names ≡ names' → files ≡ files' → whole_of functions uses shape names files asked ≡ whole_of functions uses' shape' names' files' asked
whole_same functions asked e s n f = cc
