-- Where a task goes.
use Rattle.std.proofs.Common.{◌≡◌, inl, inr, ℕ, zero, suc, Bool, List, [], ◌∷◌, ◌++◌, None, Some, length, ◌==◌}
use Rattle.std.specs.Prelude.{slice_get, ◌%◌}
use Rattle.std.specs.List.{filter}
use Rattle.hal_base.specs.Shapes.{source_at}
use Rattle.hal_base.specs.declared.shape.Shape.{Shape}
use Rattle.node_names.specs.declared.name.Name.{Name}
use Rattle.node_names.specs.declared.task.Task.{Task}
use Rattle.node_names.specs.declared.task.Task.TheVariants.{Map, Reduce, Test}
use Rattle.run_model.specs.Lists.{IsIn}
use Rattle.run_model.specs.Needs.{View}
use Rattle.run_model.specs.Sites.{favoured, favourite, held_of, holds_one, in_turn_of, kept_split, most, site, site_among}
use Rattle.run_model.specs.State.{Copy}
use Rattle.run_model.specs.Tasks.{split}
use Rattle.run_laws.proofs.Members.{find_is, from_filter}

get_in : (k n : ℕ) (ns : List ℕ) → slice_get ns k ≡ Some n → IsIn n ns
get_in k n [] e = absurd (none e)
  where
    none : None ≡ Some n → ⊥
    none h = cc
get_in zero n (m ∷ ns) e = inl (same m e)
  where
    same : (m : ℕ) → Some m ≡ Some n → n ≡ m
    same m h = cc
get_in (suc k) n (m ∷ ns) e = inr (get_in k n ns e)

turn_of_in : (k n : ℕ) (test : ℕ → Bool) (nodes : List ℕ) → in_turn_of k (filter test nodes) nodes ≡ Some n → IsIn n nodes
turn_of_in k n test nodes e = go (filter test nodes) (λ m i. (from_filter test m nodes i).0) e
  where
    go : (holders : List ℕ) → ((m : ℕ) → IsIn m holders → IsIn m nodes) → in_turn_of k holders nodes ≡ Some n → IsIn n nodes
    go [] h e = get_in (k % length nodes) n nodes e
    go (x ∷ holders) h e = h n (get_in (k % length (x ∷ holders)) n (x ∷ holders) e)

favourite_in : (copies : List Copy) (names : List Name) (p n : ℕ) (nodes : List ℕ) (k : ℕ) → favourite copies names p nodes k ≡ Some n → IsIn n nodes
favourite_in copies names p n nodes zero e = get_in (p % length nodes) n nodes e
favourite_in copies names p n nodes (suc k) e = (find_is (λ node. held_of copies names node == suc k) nodes n e).0

among_in : (shape : Shape) (copies : List Copy) (t : Task) (idle : List ℕ) (n : ℕ) → site_among shape copies t idle ≡ Some n → IsIn n idle
among_in shape copies (Map i j s q) idle n e = turn_of_in q n (holds_one copies (split shape i j s q ++ kept_split (source_at shape j s) q)) idle e
among_in shape copies (Reduce i j p) idle n e = favourite_in copies (favoured shape (Reduce i j p)) p n idle (most copies (favoured shape (Reduce i j p)) idle) e
among_in shape copies (Test i p) idle n e = favourite_in copies (favoured shape (Test i p)) p n idle (most copies (favoured shape (Test i p)) idle) e

pub site_in : (view : View) (t : Task) (n : ℕ) → site view t ≡ Some n → IsIn n view.idle
site_in view t n e = among_in view.shape view.copies t view.idle n e
