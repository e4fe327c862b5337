-- Tables that no source reads again are given up.
use Rattle.std.proofs.Common.{◌≡◌, ℕ, zero, suc, ◌+◌, ◌<◌, ◌≤◌, ◌==◌, Bool, true, false, ◌||◌, List, [], ◌∷◌, None, Some, refl, sym, ap, ◌∙◌, subst, if◌then◌else◌, length, arith}
use Rattle.std.proofs.Math.ListN.{set}
use Rattle.std.proofs.lemmas.Bool.{eqb-false}
use Rattle.std.specs.List.{list_any}
use Rattle.hal_base.specs.declared.record.Record.{Record}
use Rattle.hal_base.specs.declared.shape.Origin.{Origin}
use Rattle.hal_base.specs.declared.shape.Origin.TheVariants.{State, Prev, Table}
use Rattle.hal_base.specs.declared.shape.Source.{Source}
use Rattle.hal_base.specs.declared.shape.Step.{Step}
use Rattle.hal_base.specs.declared.shape.Shape.{Shape}
use Rattle.hal_base.specs.Meaning.{Meaning}
use Rattle.plain_job.specs.Chain.{parts_from, source_rows, table_at}
use Rattle.sorted_parts.specs.Spills.{spilled}
use Rattle.memory_run.specs.declared.inputs.Input.{Input}
use Rattle.memory_run.specs.declared.inputs.Input.TheVariants.{Kept, Read}
use Rattle.memory_run.specs.steps.Inputs.{AllBeside, Serve, ServeStep, ServeSteps, Serves, ReadsStateOnce, emptied, plan_made, reads, with_made}
use Rattle.memory_run.proofs.Serving.{plan_is}
use Rattle.memory_run.proofs.Walking.{round_walked}

-- a table that is there is emptied by a write
pub emptied_there : (tables : List (List Record)) (n : ℕ) → n < length tables → set tables n [] ≡ emptied tables n
emptied_there [] n l = absurd (omega arith)
emptied_there (rows ∷ tables) zero l = refl
emptied_there (rows ∷ tables) (suc n) l = ap (λ xs. rows ∷ xs) (emptied_there tables n (omega arith))

-- nothing is emptied where there is no such table
pub emptied_missing : (tables : List (List Record)) (n : ℕ) → length tables ≤ n → tables ≡ emptied tables n
emptied_missing [] n l = refl
emptied_missing (rows ∷ tables) zero l = absurd (omega arith)
emptied_missing (rows ∷ tables) (suc n) l = ap (λ xs. rows ∷ xs) (emptied_missing tables n (omega arith))

-- the other tables stay
pub others_stay : (tables : List (List Record)) (n t : ℕ) → (t ≡ n → ⊥) → table_at (emptied tables n) t ≡ table_at tables t
others_stay [] n t d = refl
others_stay (rows ∷ tables) zero zero d = absurd (d refl)
others_stay (rows ∷ tables) zero (suc t) d = refl
others_stay (rows ∷ tables) (suc n) zero d = refl
others_stay (rows ∷ tables) (suc n) (suc t) d = others_stay tables n t (λ e. d (ap suc e))

neither : (a b : Bool) → (a || b) ≡ false → (a ≡ false) × (b ≡ false)
neither true b e = let no : true ≡ false = e in let never : ⊥ = cc in absurd never
neither false b e = (refl, e)

-- what does not read the table reads as before
read_stays : (tables : List (List Record)) (n i : ℕ) (state before : List Record) (from : Origin) → reads (Table n None) (Read from) ≡ false → source_rows (emptied tables n) i state before from ≡ source_rows tables i state before from
read_stays tables n i state before State e = refl
read_stays tables n i state before Prev e = refl
read_stays tables n i state before (Table t None) e = others_stay tables n t (λ is. eqb-false n t e (sym is))
read_stays tables n i state before (Table t (Some only)) e = ap (λ rows. if i == only then rows else []) (others_stay tables n t (λ is. eqb-false n t e (sym is)))

module _ (a b : Input → Bool) where
  module _ (m : Meaning) (n i j : ℕ) (rows left left' : Origin → List Record) where
    one_moved : ((from : Origin) → a (Read from) ≡ false → b (Read from) ≡ false → left' from ≡ left from) → (s : ℕ) (source : Source) (input : Input) → a input ≡ false → b input ≡ false → Serves m n rows left i j s source input → Serves m n rows left' i j s source input
    one_moved f s source (Kept made) p q h = h
    one_moved f s source (Read from) p q h = f from p q ∙ h

    step_moved : ((from : Origin) → a (Read from) ≡ false → b (Read from) ≡ false → left' from ≡ left from) → (s : ℕ) (sources : List Source) (inputs : List Input) → list_any a inputs ≡ false → list_any b inputs ≡ false → AllBeside (Serves m n rows left i j) s sources inputs → AllBeside (Serves m n rows left' i j) s sources inputs
    step_moved f s [] [] p q h = tt
    step_moved f s [] (input ∷ inputs) p q h = absurd h
    step_moved f s (source ∷ sources) [] p q h = absurd h
    step_moved f s (source ∷ sources) (input ∷ inputs) p q h =
        let p' = neither (a input) (list_any a inputs) p in
        let q' = neither (b input) (list_any b inputs) q in
        (one_moved f s source input p'.0 q'.0 h.0, step_moved f (s + 1) sources inputs p'.1 q'.1 h.1)

  module _ (m : Meaning) (n i : ℕ) (tables left left' : List (List Record)) (state held held' : List Record) where
    -- inputs of which none is of sort a or b serve, where all others read as before
    steps_moved : ((before : List Record) (from : Origin) → a (Read from) ≡ false → b (Read from) ≡ false → source_rows left' i held' before from ≡ source_rows left i held before from) → (j : ℕ) (steps : List Step) (plan : List (List Input)) → list_any (list_any a) plan ≡ false → list_any (list_any b) plan ≡ false → ServeSteps m n tables state left held i j steps plan → ServeSteps m n tables state left' held' i j steps plan
    steps_moved f j [] [] p q h = tt
    steps_moved f j [] (inputs ∷ plan) p q h = absurd h
    steps_moved f j (step ∷ steps) [] p q h = absurd h
    steps_moved f j (step ∷ steps) (inputs ∷ plan) p q h =
        let p' = neither (list_any a inputs) (list_any (list_any a) plan) p in
        let q' = neither (list_any b inputs) (list_any (list_any b) plan) q in
        (λ before. step_moved m n i j (source_rows tables i state before) (source_rows left i held before) (source_rows left' i held' before) (f before) 1 step.sources inputs p'.0 q'.0 (h.0 before), steps_moved f (j + 1) steps plan p'.1 q'.1 h.1)

-- inputs that do not read a table serve without it
pub serves_without : (m : Meaning) (shape : Shape) (real left left' : List (List Record)) (t : ℕ) (plan : List (List Input)) → list_any (list_any (reads (Table t None))) plan ≡ false → left' ≡ emptied left t → Serve m shape real left plan → Serve m shape real left' plan
serves_without m shape real left left' t plan none e h i state =
    let gone : ServeSteps m shape.parts real state (emptied left t) state i 1 shape.steps plan =
    steps_moved (reads (Table t None)) (reads (Table t None)) m shape.parts i real left (emptied left t) state state state (λ before from p q. read_stays left t i state before from p) 1 shape.steps plan none none (h i state)
    in
    rw e gone

module _ (m : Meaning) (n i : ℕ) (tables left : List (List Record)) (state : List Record) (start : ℕ) where
  unread : (before : List Record) (from : Origin) → reads State (Read from) ≡ false → reads (Table start None) (Read from) ≡ false → source_rows (emptied left start) i [] before from ≡ source_rows left i state before from
  unread before State p q = let no : true ≡ false = p in let never : ⊥ = cc in absurd never
  unread before Prev p q = refl
  unread before (Table t only) p q = read_stays left start i [] before (Table t only) q

  made_step : (j : ℕ) (before : List Record) (sources : List Source) (others : List Input) (made : List (List Record)) → made ≡ spilled m i j 1 state n → list_any (reads State) others ≡ false → list_any (reads (Table start None)) others ≡ false → ServeStep m n (source_rows tables i state before) (source_rows left i state before) i j sources (Read State ∷ others) → ServeStep m n (source_rows tables i state before) (source_rows (emptied left start) i [] before) i j sources (Kept made ∷ others)
  made_step j before [] others made e p q h = absurd h
  made_step j before (source ∷ sources) others made e p q h = (e ∙ ap (λ rows. spilled m i j 1 rows n) h.0, step_moved (reads State) (reads (Table start None)) m n i j (source_rows tables i state before) (source_rows left i state before) (source_rows (emptied left start) i [] before) (unread before) 2 sources others p q h.1)

  made_steps : (steps : List Step) (others : List Input) (later : List (List Input)) (made : List (List Record)) → made ≡ spilled m i 1 1 state n → list_any (reads State) others ≡ false → list_any (list_any (reads State)) later ≡ false → list_any (list_any (reads (Table start None))) ((Read State ∷ others) ∷ later) ≡ false → ServeSteps m n tables state left state i 1 steps ((Read State ∷ others) ∷ later) → ServeSteps m n tables state (emptied left start) [] i 1 steps ((Kept made ∷ others) ∷ later)
  made_steps [] others later made e p q r h = absurd h
  made_steps (step ∷ steps) others later made e p q r h =
      let r' = neither (list_any (reads (Table start None)) others) (list_any (list_any (reads (Table start None))) later) r in
      (λ before. made_step 1 before step.sources others made e p r'.0 (h.0 before), steps_moved (reads State) (reads (Table start None)) m n i tables left (emptied left start) state state [] unread 2 steps later q r'.1 h.1)

-- the first round, where the sections of the first source of all are made of the start table, which is gone
pub start_taken : (m : Meaning) (shape : Shape) (real left left' : List (List Record)) (state : List Record) (plan : List (List Input)) (made : List (List Record)) → ReadsStateOnce shape.start plan → made ≡ spilled m 1 1 1 state shape.parts → left' ≡ emptied left shape.start → Serve m shape real left plan → plan_made m shape.parts left' 1 1 [] [] (with_made (Some made) plan) ≡ parts_from m shape real 1 state (length shape.steps)
start_taken m shape real left left' state plan made u e gone h =
    let whole : List (List Input) = (Read State ∷ u.others) ∷ u.later in
    let none : list_any (list_any (reads (Table shape.start None))) whole ≡ false = subst (λ p. list_any (list_any (reads (Table shape.start None))) p ≡ false) u.plan_is u.start_not in
    let serves : ServeSteps m shape.parts real state left state 1 1 shape.steps whole = subst (λ p. ServeSteps m shape.parts real state left state 1 1 shape.steps p) u.plan_is (h 1 state) in
    let made_of = made_steps m shape.parts 1 real left state shape.start shape.steps u.others u.later made e u.others_not u.later_not none serves in
    rw (gone, u.plan_is) (plan_is m shape real (emptied left shape.start) state [] 1 1 [] shape.steps ((Kept made ∷ u.others) ∷ u.later) made_of ∙ round_walked m shape real 1 state)
