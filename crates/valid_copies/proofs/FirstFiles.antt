-- The file that is tried first is the first of those that a plan tries.
use Rattle.std.proofs.Common.{◌≡◌, ℕ, ◌<◌, Bool, true, false, ◌&&◌, ◌||◌, not, cond, List, [], ◌∷◌, ◌++◌, ◌==◌, Option, None, Some, refl, sym, ap, subst, ◌∙◌, map, is_some, slice_get}
use Rattle.std.specs.Prelude.{option_map, IfNone, IfSome, if◌then◌else◌}
use Rattle.std.specs.List.{filter, flat_map}
use Rattle.std.specs.Option.{option_and_then}
use Rattle.std.proofs.lemmas.Bool.{eq-eqb, eqb-true, false≢true}
use Rattle.node_names.specs.declared.digest.Digest.{Digest}
use Rattle.node_names.specs.declared.name.Name.{Name}
use Rattle.node_names.specs.declared.name.Name.TheVariants.{Blk, Spill, Out, Ric, Mic, Roc}
use Rattle.node_files.specs.declared.files.FileRef.{FileRef}
use Rattle.replica_table.specs.Copies.{Copy, Replicas, held, holders, is_at, is_name, nodes_with, of_name, up_holders}
use Rattle.replica_table.specs.Sets.{Ascend, among}
use Rattle.run_model.proofs.Bare.{bare_up}
use Rattle.run_model.specs.Reading.{Try, cache_of_block, own_tries, own_try, tries_for, try_at}
use Rattle.run_model.specs.State.{bare, holds}
use Rattle.run_model.specs.State.{Copy as Bare}
use Rattle.valid_copies.specs.Files.{Desk, IsFirstTry, IsUpFile, try_of}
use Rattle.valid_copies.specs.Readings.{IsFile}
use Rattle.valid_copies.specs.steps.Tries.{file_at, first_file, held_file, kept_file, or_else, up_file}

-- ---- the kept digest

-- the digest of the file is that of its copy
abbrev IsKept : Replicas → Option FileRef → Type 0
IsKept table file = IfSome file (λ (it : FileRef). held it.name it.node table.copies ≡ Some it.digest)

held_kept : (table : Replicas) (node : ℕ) (name : Name) → IsKept table (held_file table node name)
held_kept table node name = go (held name node table.copies) refl
  where
    go : (o : Option Digest) → held name node table.copies ≡ o → IsKept table (option_map (file_at node name) o)
    go None e = tt
    go (Some digest) e = e

or_kept : (table : Replicas) (a b : Option FileRef) → IsKept table a → IsKept table b → IsKept table (or_else a b)
or_kept table None b k h = h
or_kept table (Some a) b k h = k

cache_kept : (table : Replicas) (node : ℕ) (name : Name) → IsKept table (kept_file table node name)
cache_kept table node (Blk t b) = held_kept table node (Mic t b)
cache_kept table node (Spill i j s q) = tt
cache_kept table node (Out i j p) = tt
cache_kept table node (Ric j s p) = tt
cache_kept table node (Mic t b) = tt
cache_kept table node (Roc i p) = tt

up_kept : (table : Replicas) (name : Name) → IsKept table (up_file table name)
up_kept table name = go (slice_get (holders name table) 0)
  where
    go : (o : Option ℕ) → IsKept table (option_and_then (λ node. held_file table node name) o)
    go None = tt
    go (Some node) = held_kept table node name

pub first_kept : (table : Replicas) (own : ℕ) (name : Name) → IsKept table (first_file table own name)
first_kept table own name = or_kept table (held_file table own name) (or_else (kept_file table own name) (up_file table name)) (held_kept table own name) (or_kept table (kept_file table own name) (up_file table name) (cache_kept table own name) (up_kept table name))

-- ---- on the own node

pub holds_held : (copies : List Copy) (node : ℕ) (name : Name) → holds (bare copies) node name ≡ is_some (held name node copies)
holds_held [] node name = refl
holds_held (c ∷ copies) node name = elim (is_at name node c) as (λ v. (v || holds (bare copies) node name) ≡ is_some (cond v (Some c.kept) (held name node copies))) [
  | true ↦ refl
  | false ↦ holds_held copies node name
]

-- what is tried of a file on a node
abbrev tries_of : Option FileRef → List Try
tries_of None = []
tries_of (Some file) = try_of file ∷ []

own_tried : (table : Replicas) (node : ℕ) (name : Name) → own_try (bare table.copies) node name ≡ tries_of (held_file table node name)
own_tried table node name = ap (λ v. if v then try_at name node ∷ [] else []) (holds_held table.copies node name) ∙ go (held name node table.copies)
  where
    go : (o : Option Digest) → (if is_some o then try_at name node ∷ [] else []) ≡ tries_of (option_map (file_at node name) o)
    go None = refl
    go (Some digest) = refl

cache_tried : (table : Replicas) (node : ℕ) (name : Name) → flat_map (own_try (bare table.copies) node) (cache_of_block name) ≡ tries_of (kept_file table node name) ++ []
cache_tried table node (Blk t b) = ap (λ xs. xs ++ []) (own_tried table node (Mic t b))
cache_tried table node (Spill i j s q) = refl
cache_tried table node (Out i j p) = refl
cache_tried table node (Ric j s p) = refl
cache_tried table node (Mic t b) = refl
cache_tried table node (Roc i p) = refl

-- ---- on other nodes

-- a node without the name is none of those with it
not_with : (copies : List Copy) (own : ℕ) (name : Name) → held name own copies ≡ None → among own (nodes_with name copies) ≡ false
not_with [] own name e = refl
not_with (c ∷ copies) own name e = elim (is_name name c.name) as (λ v. cond (v && (own == c.node)) (Some c.kept) (held name own copies) ≡ None → among own (map (λ (it : Copy). it.node) (cond v (c ∷ of_name name copies) (of_name name copies))) ≡ false) [
  | true ↦ λ h. elim (own == c.node) as (λ v. cond v (Some c.kept) (held name own copies) ≡ None → (v || among own (nodes_with name copies)) ≡ false) [
    | true ↦ λ k. absurd (some_none c.kept k)
    | false ↦ λ k. not_with copies own name k
  ] h
  | false ↦ λ h. not_with copies own name h
] e
  where
    some_none : (digest : Digest) → Some digest ≡ None → ⊥
    some_none digest h = cc

-- each node with the name has its file
with_held : (copies : List Copy) (name : Name) (node : ℕ) → held name node copies ≡ None → among node (nodes_with name copies) ≡ true → ⊥
with_held copies name node e a = false≢true (sym (not_with copies node name e) ∙ a)

or_true : (a b : Bool) → (a || b) ≡ false → (a ≡ false) × (b ≡ false)
or_true true b e = cc
or_true false b e = (refl, e)

-- where the own node is none of them, the others are all of them
others_all : (own : ℕ) (nodes : List ℕ) → among own nodes ≡ false → filter (λ node. not (node == own)) nodes ≡ nodes
others_all own [] e = refl
others_all own (n ∷ nodes) e =
    let both = or_true (own == n) (among own nodes) e in
    ap (λ v. cond (not v) (n ∷ filter (λ node. not (node == own)) nodes) (filter (λ node. not (node == own)) nodes)) (apart n both.0) ∙ ap (λ ns. n ∷ ns) (others_all own nodes both.1)
  where
    apart : (n : ℕ) → (own == n) ≡ false → (n == own) ≡ false
    apart n d = elim (n == own) as (λ v. (n == own) ≡ v → v ≡ false) [
      | true ↦ λ t. absurd (false≢true (sym d ∙ eq-eqb own n (sym (eqb-true n own t))))
      | false ↦ λ t. refl
    ] refl

left_among : (test : ℕ → Bool) (own : ℕ) (nodes : List ℕ) → among own nodes ≡ false → among own (filter test nodes) ≡ false
left_among test own [] e = refl
left_among test own (n ∷ nodes) e =
    let both = or_true (own == n) (among own nodes) e in
    elim (test n) as (λ v. among own (cond v (n ∷ filter test nodes) (filter test nodes)) ≡ false) [
      | true ↦ ap (λ v. v || among own (filter test nodes)) both.0 ∙ left_among test own nodes both.1
      | false ↦ left_among test own nodes both.1
    ]

-- a holder that is up is one of those with the name
pub first_with : (test : ℕ → Bool) (nodes : List ℕ) (n : ℕ) → slice_get (filter test nodes) 0 ≡ Some n → among n nodes ≡ true
first_with test [] n e = absurd (none_some e)
  where
    none_some : None ≡ Some n → ⊥
    none_some h = cc
first_with test (m ∷ nodes) n e = elim (test m) as (λ v. slice_get (cond v (m ∷ filter test nodes) (filter test nodes)) 0 ≡ Some n → ((n == m) || among n nodes) ≡ true) [
  | true ↦ λ h. ap (λ v. v || among n nodes) (eq-eqb n m (same h))
  | false ↦ λ h. or_right (n == m) (among n nodes) (first_with test nodes n h)
] e
  where
    same : Some m ≡ Some n → n ≡ m
    same h = cc

    or_right : (a b : Bool) → b ≡ true → (a || b) ≡ true
    or_right true b h = refl
    or_right false b h = h

-- the first of ascending numbers is below their end
pub first_under : (end n : ℕ) (ns : List ℕ) → Ascend 0 end ns → slice_get ns 0 ≡ Some n → n < end
first_under end n [] a e = absurd (none_some e)
  where
    none_some : None ≡ Some n → ⊥
    none_some h = cc
first_under end n (m ∷ ns) a e = subst (λ k. k < end) (same e) a.1
  where
    same : Some m ≡ Some n → m ≡ n
    same h = cc

-- the file on the lowest up node with the name is there where one is
module _ (table : Replicas) (name : Name) where
  none_at : (ns : List ℕ) → holders name table ≡ ns → option_and_then (λ node. held_file table node name) (slice_get ns 0) ≡ None → ns ≡ []
  none_at [] h e = refl
  none_at (n ∷ ns) h e = absurd (with_held table.copies name n (none_of (held name n table.copies) e) (first_with (λ k. among k table.up) (nodes_with name table.copies) n (ap (λ ks. slice_get ks 0) h)))
    where
      none_of : (o : Option Digest) → option_map (file_at n name) o ≡ None → o ≡ None
      none_of None f = refl
      none_of (Some digest) f = cc

  pub up_none : up_file table name ≡ None → holders name table ≡ []
  up_none e = none_at (holders name table) refl e

  pub none_up : (o : Option FileRef) → o ≡ up_file table name → IfNone o (holders name table ≡ [])
  none_up None e = up_none (sym e)
  none_up (Some file) e = tt

  at_node : (o : Option ℕ) (p : Option FileRef) → slice_get (holders name table) 0 ≡ o → option_and_then (λ node. held_file table node name) o ≡ p → IfSome p (IsUpFile table name)
  at_node None None h e = tt
  at_node None (Some file) h e = absurd (none_some file e)
    where
      none_some : (file : FileRef) → None ≡ Some file → ⊥
      none_some file f = cc
  at_node (Some n) p h e = with_digest (held name n table.copies) p refl e
    where
      with_digest : (d : Option Digest) (p : Option FileRef) → held name n table.copies ≡ d → option_map (file_at n name) d ≡ p → IfSome p (IsUpFile table name)
      with_digest d None k f = tt
      with_digest None (Some file) k f = absurd (none_some file f)
        where
          none_some : (file : FileRef) → None ≡ Some file → ⊥
          none_some file f = cc
      with_digest (Some digest) (Some file) k f = subst (IsUpFile table name) (same file f) (record { named = refl; lowest = h; kept = k })
        where
          same : (file : FileRef) → Some (file_at n name digest) ≡ Some file → file_at n name digest ≡ file
          same file f = cc

  pub up_some : (p : Option FileRef) → p ≡ up_file table name → IfSome p (IsUpFile table name)
  up_some p e = at_node (slice_get (holders name table) 0) p refl (sym e)

-- a file of a node that there is
pub held_there : (table : Replicas) (node : ℕ) (name : Name) (o : Option FileRef) → o ≡ held_file table node name → node < table.nodes → IfSome o (λ file. file.node < table.nodes)
held_there table node name o e l = subst (λ p. IfSome p (λ (file : FileRef). file.node < table.nodes)) (sym e) (at (held name node table.copies))
  where
    at : (d : Option Digest) → IfSome (option_map (file_at node name) d) (λ (file : FileRef). file.node < table.nodes)
    at None = tt
    at (Some digest) = l

first_mapped : (name : Name) (nodes : List ℕ) → slice_get (map (try_at name) nodes) 0 ≡ option_map (try_at name) (slice_get nodes 0)
first_mapped name [] = refl
first_mapped name (n ∷ nodes) = refl

up_tried : (table : Replicas) (name : Name) → option_map (try_at name) (slice_get (holders name table) 0) ≡ option_map try_of (up_file table name)
up_tried table name = go (slice_get (holders name table) 0) refl
  where
    found : (node : ℕ) (o : Option Digest) → held name node table.copies ≡ o → slice_get (holders name table) 0 ≡ Some node → Some (try_at name node) ≡ option_map try_of (option_map (file_at node name) o)
    found node (Some digest) e h = refl
    found node None e h = absurd (with_held table.copies name node e (first_with (λ n. among n table.up) (nodes_with name table.copies) node h))

    go : (o : Option ℕ) → slice_get (holders name table) 0 ≡ o → option_map (try_at name) o ≡ option_map try_of (option_and_then (λ node. held_file table node name) o)
    go None e = refl
    go (Some node) e = found node (held name node table.copies) refl e

-- ---- the first of all

first_of_three : (a b u : Option FileRef) (others : List Try) → (a ≡ None → slice_get others 0 ≡ option_map try_of u) → slice_get ((tries_of a ++ (tries_of b ++ [])) ++ others) 0 ≡ option_map try_of (or_else a (or_else b u))
first_of_three (Some a) b u others h = refl
first_of_three None (Some b) u others h = refl
first_of_three None None u others h = h refl

abbrev others_over : ℕ → Name → List Bare → List ℕ → List Try
others_over own name copies up = map (try_at name) (filter (λ node. not (node == own)) (up_holders name up copies))

abbrev tries_over : ℕ → Name → List Bare → List ℕ → List Try
tries_over own name copies up = own_tries copies own name ++ others_over own name copies up

none_held : (node : ℕ) (name : Name) (o : Option Digest) → option_map (file_at node name) o ≡ None → o ≡ None
none_held node name None e = refl
none_held node name (Some digest) e = absurd (some_none (file_at node name digest) e)
  where
    some_none : (file : FileRef) → Some file ≡ None → ⊥
    some_none file h = cc

pub first_tried : (desk : Desk) (name : Name) → IsFirstTry desk name (option_map try_of (first_file desk.table desk.own name))
first_tried desk name c sees =
    let table = desk.table in
    let own = desk.own in
    let seen : tries_for c own name ≡ tries_over own name (bare table.copies) table.up =
    ap (λ copies. tries_over own name copies c.up) sees.copies ∙ ap (tries_over own name (bare table.copies)) sees.up in
    let on_own : own_tries (bare table.copies) own name ≡ tries_of (held_file table own name) ++ (tries_of (kept_file table own name) ++ []) =
    ap (λ ts. ts ++ flat_map (own_try (bare table.copies) own) (cache_of_block name)) (own_tried table own name) ∙ ap (λ ts. tries_of (held_file table own name) ++ ts) (cache_tried table own name) in
    ap (λ ts. slice_get ts 0) (seen ∙ ap (λ ts. ts ++ others_over own name (bare table.copies) table.up) on_own)
    ∙ first_of_three (held_file table own name) (kept_file table own name) (up_file table name) (others_over own name (bare table.copies) table.up) (λ none.
    let not_own = left_among (λ n. among n table.up) own (nodes_with name table.copies) (not_with table.copies own name (none_held own name (held name own table.copies) none)) in
    ap (λ ns. slice_get (map (try_at name) (filter (λ node. not (node == own)) ns)) 0) (bare_up name table.up table.copies)
    ∙ ap (λ ns. slice_get (map (try_at name) ns) 0) (others_all own (holders name table) not_own)
    ∙ first_mapped name (holders name table)
    ∙ up_tried table name)

-- ---- files that are no caches of a reduce

abbrev IsFileIn : Option FileRef → Type 0
IsFileIn file = IfSome file (λ (it : FileRef). IsFile it.name)

held_is : (table : Replicas) (node : ℕ) (name : Name) → IsFile name → IsFileIn (held_file table node name)
held_is table node name f = go (held name node table.copies)
  where
    go : (o : Option Digest) → IsFileIn (option_map (file_at node name) o)
    go None = tt
    go (Some digest) = f

kept_is : (table : Replicas) (node : ℕ) (name : Name) → IsFileIn (kept_file table node name)
kept_is table node (Blk t b) = held_is table node (Mic t b) tt
kept_is table node (Spill i j s q) = tt
kept_is table node (Out i j p) = tt
kept_is table node (Ric j s p) = tt
kept_is table node (Mic t b) = tt
kept_is table node (Roc i p) = tt

or_is : (a b : Option FileRef) → IsFileIn a → IsFileIn b → IsFileIn (or_else a b)
or_is None b f g = g
or_is (Some a) b f g = f

pub first_is : (table : Replicas) (own : ℕ) (name : Name) → IsFile name → IsFileIn (first_file table own name)
first_is table own name f = or_is (held_file table own name) (or_else (kept_file table own name) (up_file table name)) (held_is table own name f) (or_is (kept_file table own name) (up_file table name) (kept_is table own name) (up (slice_get (holders name table) 0)))
  where
    up : (o : Option ℕ) → IsFileIn (option_and_then (λ node. held_file table node name) o)
    up None = tt
    up (Some node) = held_is table node name f
