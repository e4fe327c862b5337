-- The holders of names as sets, and as the copies say.
use Rattle.std.proofs.Common.{◌≡◌, ℕ, zero, suc, Bool, true, false, cond, max, ◌==◌, ◌||◌, List, [], ◌∷◌, ◌++◌, length, map, ◌+◌, Option, None, Some, MatchOption, refl, sym, ap, ◌∙◌, append_assoc}
use Rattle.std.specs.List.{filter, find, flat_map, range_with_len}
use Rattle.replica_table.specs.Copies.{nodes_with, up_holders}
use Rattle.replica_table.specs.Sets.{among, members}
use Rattle.std.proofs.lemmas.List.Folds.{list_any-append}
use Rattle.hal_base.specs.Shapes.{source_at}
use Rattle.hal_base.specs.declared.shape.Shape.{Shape}
use Rattle.node_names.specs.declared.name.Name.{Name}
use Rattle.node_names.specs.declared.name.Name.TheVariants.{Out, Ric}
use Rattle.node_names.specs.declared.task.Task.{Task}
use Rattle.node_names.specs.declared.task.Task.TheVariants.{Map, Reduce, Test}
use Rattle.run_model.specs.Needs.{View}
use Rattle.run_model.specs.Sites.{favoured, favourite, held_of, holds_one, in_turn_of, kept_split, most, site}
use Rattle.run_model.specs.State.{Copy, holds}
use Rattle.run_model.specs.Tasks.{is_cached, last, split}
use Rattle.run_model.proofs.Bare.{holds_among}
use Rattle.loop_scheduler.specs.Views.{AreAmong}
use Rattle.loop_scheduler.specs.steps.Choosing.{cache_at, first_in_most, first_with, holders_if, holders_of, most_by, or_in_turn, sets_with}
use Rattle.loop_scheduler.proofs.Choices.{among_up, among_where, found_among, member_in_range, most_found, passing_are, same_first, same_passing, turn_among, turn_none}

-- an up node is one of the up holders of a name where it holds it
pub holds_up : (view : View) (node : ℕ) (name : Name) → among node view.up ≡ true → among node (up_holders name view.up view.copies) ≡ holds view.copies node name
holds_up view node name e = among_up node (nodes_with name view.copies) view.up e ∙ sym (holds_among view.copies node name)

-- ---- one name or none

or_false : (b : Bool) → b ≡ (b || false)
or_false true = refl
or_false false = refl

pub holds_if : (view : View) (node : ℕ) (name : Option Name) (names : List Name) → MatchOption name (names ≡ []) (λ it. names ≡ it ∷ []) → among node view.up ≡ true → among node (holders_if view name) ≡ holds_one view.copies names node
holds_if view node None names m e = ap (λ them. holds_one view.copies them node) (sym m)
holds_if view node (Some name) names m e = holds_up view node name e ∙ or_false (holds view.copies node name) ∙ ap (λ them. holds_one view.copies them node) (sym m)

-- the idle holders of a file or of what is kept of it, from the sets of each
pub split_found : (view : View) (idle either files caches both : ℕ) (file kept : Option Name) (names more : List Name) → members idle ≡ view.idle → AreAmong view.idle view.up → members files ≡ holders_if view file → MatchOption file (names ≡ []) (λ it. names ≡ it ∷ []) → members caches ≡ holders_if view kept → MatchOption kept (more ≡ []) (λ it. more ≡ it ∷ []) → members either ≡ filter (λ node. among node (members files) || among node (members caches)) (range_with_len 0 64) → members both ≡ filter (λ node. among node (members either)) (members idle) → members both ≡ filter (holds_one view.copies (names ++ more)) view.idle
split_found view idle either files caches both file kept names more nodes a f m g n e b =
    b ∙ ap (filter (λ node. among node (members either))) nodes
    ∙ same_passing (λ node. among node (members either)) (holds_one view.copies (names ++ more)) view.idle (λ q is.
    ap (among q) e
    ∙ among_where (λ node. among node (members files) || among node (members caches)) q (range_with_len 0 64) (member_in_range idle q (ap (among q) nodes ∙ is))
    ∙ (λ i. (ap (among q) f ∙ holds_if view q file names m (a q is)) i || (ap (among q) g ∙ holds_if view q kept more n (a q is)) i)
    ∙ sym (list_any-append (holds view.copies q) names more))

-- ---- many names

-- a set that is added to those of the names before
pub one_more : (sets new : List (List ℕ)) (set holders : List ℕ) (rest : List (List ℕ)) → new ≡ sets ++ set ∷ [] → set ≡ holders → new ++ rest ≡ sets ++ holders ∷ rest
one_more sets new set holders rest e h = ap (λ them. them ++ rest) e ∙ append_assoc sets (set ∷ []) rest ∙ ap (λ it. sets ++ it ∷ rest) h

pub held_by : (view : View) (node : ℕ) (names : List Name) → among node view.up ≡ true → sets_with (holders_of view names) node ≡ held_of view.copies names node
held_by view node [] e = refl
held_by view node (name ∷ names) e =
    ap (λ b. length (cond b (up_holders name view.up view.copies ∷ filter (among node) (holders_of view names)) (filter (among node) (holders_of view names)))) (holds_up view node name e)
    ∙ elim (holds view.copies node name) as (λ t. length (cond t (up_holders name view.up view.copies ∷ filter (among node) (holders_of view names)) (filter (among node) (holders_of view names))) ≡ length (cond t (name ∷ filter (holds view.copies node) names) (filter (holds view.copies node) names))) [
      | true ↦ ap suc (held_by view node names e)
      | false ↦ held_by view node names e
    ]

most_is : (copies : List Copy) (names : List Name) (nodes : List ℕ) → most_by (held_of copies names) nodes ≡ most copies names nodes
most_is copies names [] = refl
most_is copies names (n ∷ nodes) = ap (max (held_of copies names n)) (most_is copies names nodes)

-- the node that is first in the most sets of holders, or else the k-th, is the favourite
pub favourite_found : (view : View) (names : List Name) (k : ℕ) (nodes : List ℕ) → AreAmong nodes view.up → or_in_turn (first_in_most (holders_of view names) nodes) k nodes ≡ favourite view.copies names k nodes (most view.copies names nodes)
favourite_found view names k nodes a =
    ap (λ o. or_in_turn o k nodes) (same_first (sets_with (holders_of view names)) (held_of view.copies names) nodes (λ q e. held_by view q names (a q e)))
    ∙ elim (most_by (held_of view.copies names) nodes) as (λ m. most_by (held_of view.copies names) nodes ≡ m → or_in_turn (first_with (held_of view.copies names) m nodes) k nodes ≡ favourite view.copies names k nodes m) [
      | zero ↦ λ e. refl
      | suc j ↦ λ e. elim (find (λ n. held_of view.copies names n == suc j) nodes) as (λ o. find (λ n. held_of view.copies names n == suc j) nodes ≡ o → or_in_turn o k nodes ≡ o) [
        | None ↦ λ f. absurd (most_found (held_of view.copies names) j nodes e f)
        | Some q ↦ λ f. refl
      ] refl
    ] refl
    ∙ ap (favourite view.copies names k nodes) (most_is view.copies names nodes)

-- ---- names one after another

-- so many parts of what round i leaves, from this one on
abbrev pub parts_from : Shape → ℕ → ℕ → ℕ → List Name
parts_from shape i part len = map (Out i (last shape)) (range_with_len part len)

pub parts_more : (view : View) (i part len fewer : ℕ) (sets new : List (List ℕ)) (set : List ℕ) → len ≡ suc fewer → new ≡ sets ++ set ∷ [] → set ≡ up_holders (Out i (last view.shape) part) view.up view.copies → new ++ holders_of view (parts_from view.shape i (part + 1) fewer) ≡ sets ++ holders_of view (parts_from view.shape i part len)
parts_more view i part len fewer sets new set more e h = one_more sets new set (up_holders (Out i (last view.shape) part) view.up view.copies) (holders_of view (parts_from view.shape i (part + 1) fewer)) e h ∙ ap (λ n. sets ++ holders_of view (parts_from view.shape i part n)) (sym more)

-- the caches that a part of a step may have of so many sources, from this one on
abbrev pub caches_from : Shape → ℕ → ℕ → ℕ → ℕ → List Name
caches_from shape j p source len = flat_map (cache_at shape j p) (range_with_len source len)

pub caches_more : (view : View) (j p source len fewer : ℕ) (sets new : List (List ℕ)) (set : List ℕ) → len ≡ suc fewer → is_cached (source_at view.shape j source) ≡ true → new ≡ sets ++ set ∷ [] → set ≡ up_holders (Ric j source p) view.up view.copies → new ++ holders_of view (caches_from view.shape j p (source + 1) fewer) ≡ sets ++ holders_of view (caches_from view.shape j p source len)
caches_more view j p source len fewer sets new set more cached e h =
    one_more sets new set (up_holders (Ric j source p) view.up view.copies) (holders_of view (caches_from view.shape j p (source + 1) fewer)) e h
    ∙ ap (λ b. sets ++ holders_of view (cond b (Ric j source p ∷ []) [] ++ caches_from view.shape j p (source + 1) fewer)) (sym cached)
    ∙ ap (λ n. sets ++ holders_of view (caches_from view.shape j p source n)) (sym more)

pub caches_past : (view : View) (j p source len fewer : ℕ) (sets : List (List ℕ)) → len ≡ suc fewer → is_cached (source_at view.shape j source) ≡ false → sets ++ holders_of view (caches_from view.shape j p (source + 1) fewer) ≡ sets ++ holders_of view (caches_from view.shape j p source len)
caches_past view j p source len fewer sets more plain =
    ap (λ b. sets ++ holders_of view (cond b (Ric j source p ∷ []) [] ++ caches_from view.shape j p (source + 1) fewer)) (sym plain)
    ∙ ap (λ n. sets ++ holders_of view (caches_from view.shape j p source n)) (sym more)

-- ---- the site

holder_among : (k q : ℕ) (holders nodes : List ℕ) → AreAmong holders nodes → in_turn_of k holders nodes ≡ Some q → among q nodes ≡ true
holder_among k q [] nodes a e = turn_among k q nodes e
holder_among k q (n ∷ holders) nodes a e = a q (turn_among k q (n ∷ holders) e)

holder_none : (k : ℕ) (holders nodes : List ℕ) → in_turn_of k holders nodes ≡ None → nodes ≡ []
holder_none k [] nodes e = turn_none k nodes e
holder_none k (n ∷ holders) nodes e = let none : n ∷ holders ≡ [] = turn_none k (n ∷ holders) e in absurd (cc)

favourite_among : (copies : List Copy) (names : List Name) (k q : ℕ) (nodes : List ℕ) (m : ℕ) → favourite copies names k nodes m ≡ Some q → among q nodes ≡ true
favourite_among copies names k q nodes zero e = turn_among k q nodes e
favourite_among copies names k q nodes (suc j) e = found_among (λ n. held_of copies names n == suc j) q nodes e

favourite_none : (copies : List Copy) (names : List Name) (k : ℕ) (nodes : List ℕ) (m : ℕ) → most copies names nodes ≡ m → favourite copies names k nodes m ≡ None → nodes ≡ []
favourite_none copies names k nodes zero e f = turn_none k nodes f
favourite_none copies names k nodes (suc j) e f = absurd (most_found (held_of copies names) j nodes (most_is copies names nodes ∙ e) f)

-- a task without a site finds no idle node, and its site is an idle node
pub site_none : (view : View) (task : Task) → site view task ≡ None → view.idle ≡ []
site_none view (Map i j s q) e = holder_none q (filter (holds_one view.copies (split view.shape i j s q ++ kept_split (source_at view.shape j s) q)) view.idle) view.idle e
site_none view (Reduce i j p) e = favourite_none view.copies (favoured view.shape (Reduce i j p)) p view.idle (most view.copies (favoured view.shape (Reduce i j p)) view.idle) refl e
site_none view (Test i p) e = favourite_none view.copies (favoured view.shape (Test i p)) p view.idle (most view.copies (favoured view.shape (Test i p)) view.idle) refl e

pub site_idle : (view : View) (task : Task) (node : ℕ) → site view task ≡ Some node → among node view.idle ≡ true
site_idle view (Map i j s q) node e = holder_among q node (filter (holds_one view.copies (split view.shape i j s q ++ kept_split (source_at view.shape j s) q)) view.idle) view.idle (λ n a. passing_are (holds_one view.copies (split view.shape i j s q ++ kept_split (source_at view.shape j s) q)) n view.idle a) e
site_idle view (Reduce i j p) node e = favourite_among view.copies (favoured view.shape (Reduce i j p)) p node view.idle (most view.copies (favoured view.shape (Reduce i j p)) view.idle) e
site_idle view (Test i p) node e = favourite_among view.copies (favoured view.shape (Test i p)) p node view.idle (most view.copies (favoured view.shape (Test i p)) view.idle) e
