-- The tasks of the rounds until one, and the names of such rounds.
use Rattle.std.proofs.Common.{◌≡◌, inl, inr, ℕ, ◌≤◌, true, false, cond, [], ◌++◌, refl, sym, subst, map, arith, nat_le}
use Rattle.std.specs.List.{flat_map, range_with_len}
use Rattle.std.proofs.lemmas.Bool.{le-leb, leb-true}
use Rattle.hal_base.specs.Shapes.{source_at, step_at}
use Rattle.hal_base.specs.declared.shape.Shape.{Shape}
use Rattle.node_names.specs.declared.name.Name.{Name}
use Rattle.node_names.specs.declared.name.Name.TheVariants.{Blk, Mic, Out, Ric, Roc, Spill}
use Rattle.node_names.specs.declared.task.Task.{Task}
use Rattle.node_names.specs.declared.task.Task.TheVariants.{Map, Reduce, Test}
use Rattle.run_model.specs.Lists.{IsIn, below}
use Rattle.run_model.specs.Tasks.{IsTask, count_in, last, maps, reduces, source_count, source_numbers, splits, tasks_of_round, tasks_until, test_count, tests}
use Rattle.run_laws.specs.Rounds.{NameFits, NamesAreOfTheShape, TasksAreOfTheShape, round_in}
use Rattle.run_laws.proofs.Members.{from_below, from_flat, from_map, from_range, in_either, in_flat, in_left, in_map, in_range, in_right}

-- ---- the numbers of a listed task

abbrev pub Listed : Shape → ℕ → Task → Type 0
Listed shape n (Map i j s q) = IsIn i (range_with_len 1 n) × IsIn j (range_with_len 1 (last shape)) × IsIn s (source_numbers shape j) × IsIn q (splits shape i j s)
Listed shape n (Reduce i j p) = IsIn i (range_with_len 1 n) × IsIn j (range_with_len 1 (last shape)) × IsIn p (below shape.parts)
Listed shape n (Test i p) = IsIn i (range_with_len 1 n) × (2 ≤ i) × IsIn p (below (test_count shape))

in_tests : (shape : Shape) (i : ℕ) (t : Task) → IsIn t (tests shape i) → (p : ℕ) × (2 ≤ i) × IsIn p (below (test_count shape)) × (t ≡ Test i p)
in_tests shape i t x = elim (nat_le 2 i) as (λ v. nat_le 2 i ≡ v → IsIn t (cond v (map (Test i) (below (test_count shape))) []) → (p : ℕ) × (2 ≤ i) × IsIn p (below (test_count shape)) × (t ≡ Test i p)) [
  | true ↦ λ e y. let m = from_map (Test i) t (below (test_count shape)) y in (m.0, leb-true 2 i e, m.1, m.2)
  | false ↦ λ e y. elim y [ ]
] refl x

pub numbers_are : (shape : Shape) (n : ℕ) (t : Task) → IsIn t (tasks_until shape n) → Listed shape n t
numbers_are shape n t x =
    let r = from_flat (tasks_of_round shape) t (range_with_len 1 n) x in
    elim (in_either t (flat_map (λ j. maps shape r.0 j ++ reduces shape r.0 j) (range_with_len 1 (last shape))) (tests shape r.0) r.2) [
      | inl a ↦
          let j = from_flat (λ j. maps shape r.0 j ++ reduces shape r.0 j) t (range_with_len 1 (last shape)) a in
          elim (in_either t (maps shape r.0 j.0) (reduces shape r.0 j.0) j.2) [
            | inl b ↦
                let s = from_flat (λ s. map (Map r.0 j.0 s) (splits shape r.0 j.0 s)) t (source_numbers shape j.0) b in
                let q = from_map (Map r.0 j.0 s.0) t (splits shape r.0 j.0 s.0) s.2 in
                subst (Listed shape n) {x = Map r.0 j.0 s.0 q.0} (sym {b = Map r.0 j.0 s.0 q.0} q.2) (r.1, j.1, s.1, q.1)
            | inr b ↦
                let p = from_map (Reduce r.0 j.0) t (below shape.parts) b in
                subst (Listed shape n) {x = Reduce r.0 j.0 p.0} (sym {b = Reduce r.0 j.0 p.0} p.2) (r.1, j.1, p.1)
          ]
      | inr b ↦ let m = in_tests shape r.0 t b in subst (Listed shape n) (sym m.3) (r.1, m.1, m.2)
    ]

pub tasks_more : (shape : Shape) (n m : ℕ) (t : Task) → n ≤ m → IsIn t (tasks_until shape n) → IsIn t (tasks_until shape m)
tasks_more shape n m t l x =
    let r = from_flat (tasks_of_round shape) t (range_with_len 1 n) x in
    let b = from_range 1 n r.0 r.1 in
    in_flat (tasks_of_round shape) r.0 t (range_with_len 1 m) (in_range 1 m r.0 b.0 (omega arith)) r.2

pub name_more : (shape : Shape) (n m : ℕ) (name : Name) → n ≤ m → NameFits shape n name → NameFits shape m name
name_more shape n m (Blk t b) l f = f
name_more shape n m (Spill i j s q) l f = tasks_more shape n m (Map i j s q) l f
name_more shape n m (Out i j p) l f = tasks_more shape n m (Reduce i j p) l f
name_more shape n m (Ric j s p) l f = f
name_more shape n m (Mic t b) l f = f
name_more shape n m (Roc i p) l f = tasks_more shape n m (Reduce i (last shape) p) l f

-- ---- names and tasks of the shape

task_of : (shape : Shape) (round : ℕ) (task : Task) → Listed shape round task → IsTask shape task × (round_in task ≤ round)
task_of shape round (Map i j s q) l =
    let a = from_range 1 round i l.0 in
    let b = from_range 1 (last shape) j l.1 in
    let c = from_range 1 (source_count (step_at shape j)) s l.2 in
    ((a.0, b.0, omega arith, c.0, omega arith, from_below (count_in shape i (source_at shape j s)) q l.3), omega arith)
task_of shape round (Reduce i j p) l =
    let a = from_range 1 round i l.0 in
    let b = from_range 1 (last shape) j l.1 in
    ((a.0, b.0, omega arith, from_below shape.parts p l.2), omega arith)
task_of shape round (Test i p) l =
    let a = from_range 1 round i l.0 in
    ((l.1, from_below (test_count shape) p l.2), omega arith)

of_step : (shape : Shape) (i j : ℕ) (task : Task) → 1 ≤ j → j ≤ last shape → IsIn task (maps shape i j ++ reduces shape i j) → IsIn task (tasks_of_round shape i)
of_step shape i j task l u x = in_left task (flat_map (λ j. maps shape i j ++ reduces shape i j) (range_with_len 1 (last shape))) (tests shape i) (in_flat (λ j. maps shape i j ++ reduces shape i j) j task (range_with_len 1 (last shape)) (in_range 1 (last shape) j l (omega arith)) x)

pub of_round : (shape : Shape) (task : Task) → IsTask shape task → IsIn task (tasks_of_round shape (round_in task))
of_round shape (Map i j s q) t =
    let found = in_map (Map i j s) q (splits shape i j s) (in_range 0 (count_in shape i (source_at shape j s)) q (omega arith) (let h = t.5 in omega arith)) in
    of_step shape i j (Map i j s q) t.1 t.2 (in_left (Map i j s q) (maps shape i j) (reduces shape i j) (in_flat (λ s. map (Map i j s) (splits shape i j s)) s (Map i j s q) (source_numbers shape j) (in_range 1 (source_count (step_at shape j)) s t.3 (let h = t.4 in omega arith)) found))
of_round shape (Reduce i j p) t = of_step shape i j (Reduce i j p) t.1 t.2 (in_right (Reduce i j p) (maps shape i j) (reduces shape i j) (in_map (Reduce i j) p (below shape.parts) (in_range 0 shape.parts p (omega arith) (let h = t.3 in omega arith))))
of_round shape (Test i p) t = in_right (Test i p) (flat_map (λ j. maps shape i j ++ reduces shape i j) (range_with_len 1 (last shape))) (tests shape i) (rw (le-leb 2 i t.0) (in_map (Test i) p (below (test_count shape)) (in_range 0 (test_count shape) p (omega arith) (let h = t.1 in omega arith))))

begun : (shape : Shape) (task : Task) → IsTask shape task → 1 ≤ round_in task
begun shape (Map i j s q) t = t.0
begun shape (Reduce i j p) t = t.0
begun shape (Test i p) t = let h = t.0 in omega arith

pub tasks_are : TasksAreOfTheShape
tasks_are shape round task = (λ x. task_of shape round task (numbers_are shape round task x), λ t. in_flat (tasks_of_round shape) (round_in task) task (range_with_len 1 round) (in_range 1 round (round_in task) (begun shape task t.0) (let h = t.1 in omega arith)) (of_round shape task t.0))

pub names_are : NamesAreOfTheShape
names_are shape round (Blk t b) f = (f, omega arith)
names_are shape round (Spill i j s q) f = (tasks_are shape round (Map i j s q)).0 f
names_are shape round (Out i j p) f = (tasks_are shape round (Reduce i j p)).0 f
names_are shape round (Ric j s p) f =
    let b = from_range 1 (last shape) j f.0 in
    let c = from_range 1 (source_count (step_at shape j)) s f.1 in
    ((b.0, omega arith, c.0, omega arith, from_below shape.parts p f.2), omega arith)
names_are shape round (Mic t b) f = (f, omega arith)
names_are shape round (Roc i p) f = (tasks_are shape round (Reduce i (last shape) p)).0 f
