-- What is done with the devices, step by step, where each read may miss.
use Rattle.std.specs.Prelude.{◌≡◌, ℕ, Bool, false, List, [], ◌∷◌}
use Rattle.node_names.specs.declared.name.Name.{Name}
use Rattle.node_names.specs.declared.task.Task.{Task}
use Rattle.run_model.specs.State.{PlainCluster}

-- a call of the disks
pub data Call : Type 0 where
  Wipe : (node : ℕ) → Call
  Write : (node : ℕ) → (name : Name) → Call
  Read : (node : ℕ) → (name : Name) → Call
  Remove : (node : ℕ) → (name : Name) → Call

-- why a run is refused
pub data Refusal : Type 0 where
  TaskFailed : (task : Task) → Refusal
  NoNode : Refusal
  BlockLost : (block : Name) → Refusal
  Misses : Refusal

-- what is to be done: nothing more, with this left; nothing more, for the run is refused; a call, and then more; or a
-- read, and then what follows on whether it missed
pub data Plan (A : Type 0) : Type 0 where
  gives : A → Plan A
  refuses : PlainCluster → Refusal → Plan A
  does : Call → Plan A → Plan A
  asks : (node : ℕ) → (name : Name) → (Bool → Plan A) → Plan A

-- one plan and then another, by what the first gives
infixl 10 ◌>>=◌
-- a plan, and then the one that follows on what it gives
abbrev pub ◌>>=◌ : {A B : Type 0} → Plan A → (A → Plan B) → Plan B
(gives a) >>= f = f a
(refuses c why) >>= f = refuses c why
(does call plan) >>= f = does call (plan >>= f)
(asks node name next) >>= f = asks node name (λ missed. next missed >>= f)

-- these calls, and then more
abbrev pub do_all : {A : Type 0} → List Call → Plan A → Plan A
do_all [] plan = plan
do_all (call ∷ calls) plan = does call (do_all calls plan)

-- ---- a plan and the calls that were made

-- a call that was made, and, of a read, whether it missed
pub record Made : Type 0 where
  pub call : Call
  pub missed : Bool

-- after these calls, this is what is left of the plan
abbrev pub Leaves : {A : Type 0} → Plan A → List Made → Plan A → Type 0
Leaves plan [] rest = plan ≡ rest
Leaves (gives a) (m ∷ made) rest = ⊥
Leaves (refuses c why) (m ∷ made) rest = ⊥
Leaves (does call plan) (m ∷ made) rest = (m.call ≡ call) × Leaves plan made rest
Leaves (asks node name next) (m ∷ made) rest = (m.call ≡ Read node name) × Leaves (next m.missed) made rest

-- ---- a plan under marks

-- what came of a plan: the calls, the marks that are left, and what it gave or why it was refused
pub data Came (A : Type 0) : Type 0 where
  gave : A → Came A
  refused : PlainCluster → Refusal → Came A

-- what was done of a plan: its calls, the marks that are left, and what it came to
pub record Done (A : Type 0) : Type 0 where
  pub calls : List Call
  pub marks : List Bool
  pub came : Came A

-- one call more, before the others
abbrev pub and_call : {A : Type 0} → Call → Done A → Done A
and_call call done = record { calls = call ∷ done.calls; marks = done.marks; came = done.came }

-- the plan under marks, one for each read; where there are no more, no read misses
abbrev pub under : {A : Type 0} → Plan A → List Bool → Done A
under (gives a) marks = record { calls = []; marks = marks; came = gave a }
under (refuses c why) marks = record { calls = []; marks = marks; came = refused c why }
under (does call plan) marks = and_call call (under plan marks)
under (asks node name next) [] = and_call (Read node name) (under (next false) [])
under (asks node name next) (missed ∷ marks) = and_call (Read node name) (under (next missed) marks)
