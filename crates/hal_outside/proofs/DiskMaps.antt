-- What lies under a key after a call.
use Rattle.std.proofs.Common.{◌≡◌, ℕ, Bool, true, false, not, cond, List, Option, None, Some, refl, sym, ap, ◌∙◌}
use Rattle.std.specs.Ordering.{nat_cmp, eq_by_cmp}
use Rattle.std.specs.Cmp.Lexicographic.{slice_cmp}
use Rattle.std.specs.FinMap as map
use Rattle.std.proofs.lemmas.Cmp.{eq_by_cmp_equiv, nat_list_cmp_total}
use Rattle.std.proofs.lemmas.Map.Lookups.{exact_bytes}
use Rattle.std.proofs.lemmas.Bool.{eq-eqb}
use Rattle.node_names.specs.declared.name.Name.{Name}
use Rattle.hal_outside.specs.DiskFiles.{DiskMap, file_at, file_key, is_on, with_file, without_file, without_node}
use Rattle.hal_outside.specs.DiskCalls.{Call, Write, Read, Remove, Wipe, after_call}
use Rattle.hal_outside.specs.steps.DiskLogs.{found_after}

-- whether this is the key of the file
abbrev pub is_file : ℕ → Name → List ℕ → Bool
is_file node name key = eq_by_cmp (slice_cmp nat_cmp) key (file_key node name)

turned : {A : Type 0} (b : Bool) (x : Option A) → cond (not b) x None ≡ cond b None x
turned true x = refl
turned false x = refl

-- what lies under a key after a call, by what lay there before it
pub get_after : (call : Call) (files : DiskMap) (key : List ℕ) → map.get (after_call call files) key ≡ found_after call key (map.get files key)
get_after (Write node name bytes) files key = map.get-insert nat_list_cmp_total files (file_key node name) bytes key
get_after (Read node name want answer) files key = refl
get_after (Remove node name) files key = map.get-remove nat_list_cmp_total files (file_key node name) key
get_after (Wipe node) files key =
    map.get-retain_keys files (λ k. not (is_on node k)) key (λ x e. ap (λ k. not (is_on node k)) (sym (exact_bytes key x e)))
    ∙ turned (is_on node key) (map.get files key)

-- a key is its own
own_key : (node : ℕ) (name : Name) → is_file node name (file_key node name) ≡ true
own_key node name = (eq_by_cmp_equiv nat_list_cmp_total).refl (file_key node name)

-- a file that was removed is gone
pub removed_gone : (files : DiskMap) (node : ℕ) (name : Name) → file_at (without_file files node name) node name ≡ None
removed_gone files node name = get_after (Remove node name) files (file_key node name) ∙ rw (own_key node name) refl

-- so are the files of a node that was wiped
pub wiped_gone : (files : DiskMap) (node : ℕ) (name : Name) → file_at (without_node files node) node name ≡ None
wiped_gone files node name = get_after (Wipe node) files (file_key node name) ∙ rw (eq-eqb node node refl) refl

under : (files : DiskMap) (node : ℕ) (name : Name) (key : List ℕ) (t : Bool) → is_file node name key ≡ t → map.get (without_file files node name) key ≡ cond t None (map.get files key)
under files node name key t e = map.get-remove nat_list_cmp_total files (file_key node name) key ∙ rw e refl

over : (files : DiskMap) (node : ℕ) (name : Name) (bytes key : List ℕ) (t : Bool) → is_file node name key ≡ t → map.get (with_file files node name bytes) key ≡ cond t (Some bytes) (map.get files key)
over files node name bytes key t e = map.get-insert nat_list_cmp_total files (file_key node name) bytes key ∙ rw e refl

-- maps that answer alike are equal
same : (one other : DiskMap) → ((key : List ℕ) → map.get one key ≡ map.get other key) → one ≡ other
same one other e = map.same_map nat_list_cmp_total (map.slice_cmp-IsAntisymmetric map.nat_cmp-IsAntisymmetric) one other e

-- a write changes no other file
pub others_written : (files : DiskMap) (node : ℕ) (name : Name) (bytes : List ℕ) → without_file (with_file files node name bytes) node name ≡ without_file files node name
others_written files node name bytes = same (without_file (with_file files node name bytes) node name) (without_file files node name)
    (λ key. elim (is_file node name key) as (λ t. is_file node name key ≡ t → map.get (without_file (with_file files node name bytes) node name) key ≡ map.get (without_file files node name) key) [
      | true ↦ λ i. under (with_file files node name bytes) node name key true i ∙ sym (under files node name key true i)
      | false ↦ λ i. under (with_file files node name bytes) node name key false i ∙ over files node name bytes key false i ∙ sym (under files node name key false i)
    ] refl)
