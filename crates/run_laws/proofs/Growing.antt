-- Where copies are added, what was there stays there.
use Rattle.std.proofs.Common.{◌≡◌, inl, inr, ℕ, Bool, true, false, ◌||◌, not, cond, List, [], ◌∷◌, Option, None, Some, refl, ap, subst, ◌∙◌}
use Rattle.std.specs.List.{filter}
use Rattle.std.proofs.lemmas.Bool.{false≢true}
use Rattle.hal_base.specs.declared.shape.Shape.{Shape}
use Rattle.node_names.specs.declared.name.Name.{Name}
use Rattle.node_names.specs.declared.name.Name.TheVariants.{Blk, Mic, Out, Ric, Roc, Spill}
use Rattle.node_names.specs.declared.task.Task.{Task}
use Rattle.node_names.specs.declared.task.Task.TheVariants.{Map, Reduce, Test}
use Rattle.replica_table.specs.Copies.{nodes_with}
use Rattle.replica_table.specs.Sets.{among}
use Rattle.run_model.specs.Attempts.{with_known}
use Rattle.run_model.specs.Lists.{IsIn}
use Rattle.run_model.specs.Needs.{Input, holds_cache, inputs, is_there, is_up, needs, unless}
use Rattle.run_model.specs.declared.attempt.Attempt.{Attempt}
use Rattle.run_model.specs.State.{Copy, holds}
use Rattle.run_model.specs.Wanted.{is_empty}
use Rattle.run_laws.specs.Measures.{readable}
use Rattle.run_laws.specs.States.{is_open}
use Rattle.run_laws.proofs.Copies.{held_node, node_held}
use Rattle.run_laws.proofs.Members.{any_is, from_flat, in_flat, is_any, not_mono, or_mono}
use Rattle.run_laws.proofs.Numbers.{among_with}

-- each copy is still there
abbrev pub Grow : List Copy → List Copy → Type 0
Grow old new = (n : ℕ) (name : Name) → holds old n name ≡ true → holds new n name ≡ true

pub none_fails : (test : Name → Bool) (xs : List Name) → is_empty (filter (λ x. not (test x)) xs) ≡ true → (x : Name) → IsIn x xs → test x ≡ true
none_fails test [] e x i = elim i [ ]
none_fails test (y ∷ xs) e x i = elim (test y) as (λ v. test y ≡ v → is_empty (cond (not v) (y ∷ filter (λ x. not (test x)) xs) (filter (λ x. not (test x)) xs)) ≡ true → test x ≡ true) [
  | true ↦ λ t k. elim i [ inl is ↦ ap test is ∙ t | inr j ↦ none_fails test xs k x j ]
  | false ↦ λ t k. absurd (false≢true k)
] refl e

pub none_from : (test : Name → Bool) (xs : List Name) → ((x : Name) → IsIn x xs → test x ≡ true) → is_empty (filter (λ x. not (test x)) xs) ≡ true
none_from test [] h = refl
none_from test (y ∷ xs) h = rw (h y (inl refl)) (none_from test xs (λ x i. h x (inr i)))

pub up_grows : (old new : List Copy) (up : List ℕ) (name : Name) → Grow old new → is_up old up name ≡ true → is_up new up name ≡ true
up_grows old new up name g u =
    let s = any_is (λ node. among node up) (nodes_with name old) u in
    is_any (λ node. among node up) s.0 (nodes_with name new) (held_node s.0 name new (g s.0 name (node_held s.0 name old s.1))) s.2

there_grows : (old new : List Copy) (up : List ℕ) (node : ℕ) (name : Name) → Grow old new → is_there old up node name ≡ true → is_there new up node name ≡ true
there_grows old new up node (Blk t b) g h =
    or_mono (is_up old up (Blk t b) || holds old node (Blk t b)) (holds old node (Mic t b)) (is_up new up (Blk t b) || holds new node (Blk t b)) (holds new node (Mic t b))
    (or_mono (is_up old up (Blk t b)) (holds old node (Blk t b)) (is_up new up (Blk t b)) (holds new node (Blk t b)) (up_grows old new up (Blk t b) g) (g node (Blk t b)))
    (g node (Mic t b)) h
there_grows old new up node (Spill i j s q) g h = up_grows old new up (Spill i j s q) g h
there_grows old new up node (Out i j p) g h = up_grows old new up (Out i j p) g h
there_grows old new up node (Ric j s p) g h = up_grows old new up (Ric j s p) g h
there_grows old new up node (Mic t b) g h = up_grows old new up (Mic t b) g h
there_grows old new up node (Roc i p) g h = up_grows old new up (Roc i p) g h

unless_grows : (old new : List Copy) (node : ℕ) (cache : Option Name) (files : List Name) (name : Name) → Grow old new → IsIn name (unless (holds_cache new node cache) files) → IsIn name (unless (holds_cache old node cache) files)
unless_grows old new node None files name g i = i
unless_grows old new node (Some cache) files name g i = elim (holds old node cache) as (λ v. holds old node cache ≡ v → IsIn name (unless v files)) [
  | true ↦ λ e. gone (g node cache e) i
  | false ↦ λ e. from (holds new node cache) i
] refl
  where
    gone : holds new node cache ≡ true → IsIn name (unless (holds new node cache) files) → IsIn name []
    gone e i = subst (λ v. IsIn name (unless v files)) e i

    from : (v : Bool) → IsIn name (unless v files) → IsIn name files
    from true i = elim i [ ]
    from false i = i

pub readable_grows : (shape : Shape) (old new : List Copy) (up : List ℕ) (a : Attempt) → Grow old new → readable shape old up a ≡ true → readable shape new up a ≡ true
readable_grows shape old new up a g h = none_from (is_there new up a.node) (needs shape new a.node a.task) (λ name i.
    let m = from_flat (λ (it : Input). unless (holds_cache new a.node it.cache) it.files) name (inputs shape a.task) i in
    let j = in_flat (λ (it : Input). unless (holds_cache old a.node it.cache) it.files) m.0 name (inputs shape a.task) m.1 (unless_grows old new a.node m.0.cache m.0.files name g m.2) in
    there_grows old new up a.node name g (none_fails (is_there old up a.node) (needs shape old a.node a.task) h name j))

known_grows : (t : Task) (p : ℕ) (known : List ℕ) → among p known ≡ true → among p (with_known t known) ≡ true
known_grows (Map i j s q) p known a = a
known_grows (Reduce i j q) p known a = a
known_grows (Test i q) p known a = among_with q p known a

pub open_grows : (old new : List Copy) (known : List ℕ) (t u : Task) (n : ℕ) → Grow old new → is_open new (with_known t known) u n ≡ true → is_open old known u n ≡ true
open_grows old new known t (Map i j s q) n g e = not_mono (holds old n (Spill i j s q)) (holds new n (Spill i j s q)) (g n (Spill i j s q)) e
open_grows old new known t (Reduce i j p) n g e = not_mono (holds old n (Out i j p)) (holds new n (Out i j p)) (g n (Out i j p)) e
open_grows old new known t (Test i p) n g e = not_mono (among p known) (among p (with_known t known)) (known_grows t p known) e
