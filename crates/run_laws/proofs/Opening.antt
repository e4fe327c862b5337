-- A wanted task makes what is not there.
use Rattle.std.proofs.Common.{◌≡◌, inl, inr, ℕ, true, false, not, cond, List, [], ◌∷◌, Option, None, Some, refl, sym, ap, subst, ◌∙◌, map, nat_le}
use Rattle.std.specs.List.{filter, list_any}
use Rattle.std.proofs.lemmas.Bool.{false_from_ne_true, false≢true}
use Rattle.node_names.specs.declared.name.Name.{Name}
use Rattle.node_names.specs.declared.name.Name.TheVariants.{Blk, Mic, Out, Ric, Roc, Spill}
use Rattle.node_names.specs.declared.task.Task.{Task}
use Rattle.node_names.specs.declared.task.Task.TheVariants.{Map, Reduce, Test}
use Rattle.replica_table.specs.Copies.{nodes_with}
use Rattle.replica_table.specs.Sets.{among}
use Rattle.run_model.specs.Attempts.{made_by}
use Rattle.run_model.specs.Lists.{IsIn, below}
use Rattle.run_model.specs.Needs.{View, is_there, is_up}
use Rattle.run_model.specs.Sites.{site}
use Rattle.run_model.specs.State.{Copy, holds}
use Rattle.run_model.specs.Tasks.{is_task, last, maker, tasks_until, test_count}
use Rattle.run_model.specs.Wanted.{Goal, IsWanted, goals, is_asked, is_goal, listed, looked_at, missing_at, missing_of, missing_parts, unknown_tests, walk, wanted}
use Rattle.run_laws.specs.States.{IsNow, is_open}
use Rattle.run_laws.specs.Wanting.{WantedAreTasks}
use Rattle.run_laws.proofs.Copies.{held_node}
use Rattle.run_laws.proofs.Listing.{tasks_are}
use Rattle.run_laws.proofs.Members.{from_filter, from_flat, from_map, in_either, is_any, not_true}

pub walk_in : (view : View) (ts asked : List Task) (t : Task) → IsIn t (walk view ts asked).found → IsIn t ts
walk_in view [] asked t i = i
walk_in view (u ∷ ts) asked t i = elim (list_any (is_task u) (walk view ts asked).asked) as (λ v. IsIn t (looked_at view u (walk view ts asked) v).found → IsIn t (u ∷ ts)) [
  | true ↦ λ j. elim j [ inl e ↦ inl e | inr x ↦ inr (walk_in view ts asked t x) ]
  | false ↦ λ j. inr (walk_in view ts asked t j)
] i

pub wanted_in : (view : View) (goal : Goal) (t : Task) → IsIn t (wanted view goal) → IsIn t (tasks_until view.shape goal.round)
wanted_in view goal t i = walk_in view (tasks_until view.shape goal.round) (goals view goal) t i

pub from_maker : (t : Task) (name : Name) → IsIn t (listed (maker name)) → IsIn name (made_by t)
from_maker t (Spill i j s q) (inl e) = subst (λ u. IsIn (Spill i j s q) (made_by u)) (sym e) (inl refl)
from_maker t (Spill i j s q) (inr x) = elim x [ ]
from_maker t (Out i j p) (inl e) = subst (λ u. IsIn (Out i j p) (made_by u)) (sym e) (inl refl)
from_maker t (Out i j p) (inr x) = elim x [ ]
from_maker t (Blk a b) x = elim x [ ]
from_maker t (Ric j s p) x = elim x [ ]
from_maker t (Mic a b) x = elim x [ ]
from_maker t (Roc i p) x = elim x [ ]

-- a name that no up node holds is not on this up node
not_held : (copies : List Copy) (up : List ℕ) (name : Name) (n : ℕ) → is_up copies up name ≡ false → among n up ≡ true → not (holds copies n name) ≡ true
not_held copies up name n e u = ap not (false_from_ne_true (holds copies n name) (λ h. false≢true (sym e ∙ is_any (λ node. among node up) n (nodes_with name copies) (held_node n name copies h) u)))

made_not_up : (view : View) (t : Task) (name : Name) (n : ℕ) (known : List ℕ) → IsIn name (made_by t) → is_there view.copies view.up n name ≡ false → (m : ℕ) → among m view.up ≡ true → is_open view.copies known t m ≡ true
made_not_up view (Map i j s q) name n known (inl e) f m u = not_held view.copies view.up (Spill i j s q) m (subst (λ x. is_there view.copies view.up n x ≡ false) e f) u
made_not_up view (Map i j s q) name n known (inr x) f m u = elim x [ ]
made_not_up view (Reduce i j p) name n known (inl e) f m u = not_held view.copies view.up (Out i j p) m (subst (λ x. is_there view.copies view.up n x ≡ false) e f) u
made_not_up view (Reduce i j p) name n known (inr x) f m u = elim x [ ]
made_not_up view (Test i p) name n known x f m u = elim x [ ]

made_now : (round : ℕ) (t : Task) (name : Name) → IsIn name (made_by t) → IsNow round t
made_now round (Map i j s q) name x = tt
made_now round (Reduce i j p) name x = tt
made_now round (Test i p) name x = elim x [ ]

pub missing_from : (view : View) (by : Task) (o : Option ℕ) (name : Name) → IsIn name (missing_at view by o) → (n : ℕ) × (is_there view.copies view.up n name ≡ false)
missing_from view by None name x = elim x [ ]
missing_from view by (Some n) name x = (n, not_true (is_there view.copies view.up n name) (from_filter (λ name. not (is_there view.copies view.up n name)) name _ x).1)

-- what is wanted is open on each up node, and a test is one of this round
pub record WantedOpen (view : View) (goal : Goal) (t : Task) : Type 0 where
  pub opens : (n : ℕ) → among n view.up ≡ true → is_open view.copies goal.known t n ≡ true
  pub now : IsNow goal.round t

goal_open : (view : View) (goal : Goal) (t : Task) → IsIn t (goals view goal) → WantedOpen view goal t
goal_open view goal t i = elim (in_either t (missing_parts view goal.round) (unknown_tests view goal) i) [
  | inl a ↦
      let p = from_map (Reduce goal.round (last view.shape)) t (filter (λ p. not (is_up view.copies view.up (Out goal.round (last view.shape) p))) (below view.shape.parts)) a in
      let f = not_true (is_up view.copies view.up (Out goal.round (last view.shape) p.0)) (from_filter (λ p. not (is_up view.copies view.up (Out goal.round (last view.shape) p))) p.0 (below view.shape.parts) p.1).1 in
      subst (WantedOpen view goal) (sym p.2) (record { opens = λ n u. not_held view.copies view.up (Out goal.round (last view.shape) p.0) n f u; now = tt })
  | inr b ↦ tested b
]
  where
    tested : IsIn t (unknown_tests view goal) → WantedOpen view goal t
    tested x = elim (nat_le 2 goal.round) as (λ v. IsIn t (cond v (map (Test goal.round) (filter (λ p. not (among p goal.known)) (below (test_count view.shape)))) []) → WantedOpen view goal t) [
      | true ↦ λ y.
          let p = from_map (Test goal.round) t (filter (λ p. not (among p goal.known)) (below (test_count view.shape))) y in
          let f = (from_filter (λ p. not (among p goal.known)) p.0 (below (test_count view.shape)) p.1).1 in
          subst (WantedOpen view goal) (sym p.2) (record { opens = λ n u. f; now = refl })
      | false ↦ λ y. elim y [ ]
    ] x

pub wanted_open : (view : View) (goal : Goal) (t : Task) → IsWanted view goal t → WantedOpen view goal t
wanted_open view goal _ (is_goal t i) = goal_open view goal t i
wanted_open view goal _ (is_asked t by w i) =
    let m = from_flat (λ name. listed (maker name)) t (missing_of view by) i in
    let made = from_maker t m.0 m.2 in
    let f = missing_from view by (site view by) m.0 m.1 in
    record { opens = λ n u. made_not_up view t m.0 f.0 goal.known made f.1 n u; now = made_now goal.round t m.0 made }

pub wanted_are_tasks : WantedAreTasks
wanted_are_tasks view goal task i = (tasks_are view.shape goal.round task).0 (wanted_in view goal task i)
