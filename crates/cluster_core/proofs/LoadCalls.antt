-- The calls of a load, and the plan that they follow.
use Rattle.std.proofs.Common.{◌≡◌, ℕ, false, List, [], ◌∷◌, ◌++◌, Option, Result, Ok, Err, OnOk, OnErr, map, refl, sym, ap, subst, ◌∙◌, append-nil}
use Rattle.std.specs.List.{AllByRecursion, flat_map}
use Rattle.std.proofs.lemmas.List.{append_assoc, map-append}
use Rattle.hal_base.specs.declared.record.Record.{Record}
use Rattle.hal_outside.specs.DiskCalls as disk
use Rattle.hal_outside.specs.DiskTold.{DiskTold}
use Rattle.hal_outside.specs.Told.{OnTold}
use Rattle.name_values.specs.Values.{World}
use Rattle.plain_job.proofs.Lists.{all_both, all_mapped}
use Rattle.plain_job.proofs.Numbers.{map_twice}
use Rattle.replica_table.specs.Copies.{Replicas}
use Rattle.run_model.specs.Attempts.{written}
use Rattle.run_model.specs.Lists.{below}
use Rattle.run_model.specs.Plans as plan
use Rattle.run_model.specs.Plans.{Plan, do_all, gives}
use Rattle.run_model.specs.Runs.{block_writes, load, loaded}
use Rattle.run_model.specs.State.{Setup}
use Rattle.valid_copies.proofs.Coming.{added_more}
use Rattle.valid_copies.proofs.PlanWrites.{copies_planned, planned}
use Rattle.valid_copies.proofs.Adding.{all_front, such_added}
use Rattle.valid_copies.proofs.Steps.{text_is}
use Rattle.valid_copies.specs.Calls.{Added, AreAnswered, Begun, Follows, Leads, made_of}
use Rattle.valid_copies.specs.RightCalls.{IsRightCall, RightCalls}
use Rattle.valid_copies.specs.Writes.{FileWrite, IsNextWrite, WroteSome, table_with, write_of}
use Rattle.cluster_core.specs.Filling.{AddedSome, HasItsText, block_bytes, block_files, copy_of, empty_table, load_calls, load_files, table_files}
use Rattle.cluster_core.specs.Loading.{IsLoaded}

-- ---- some of the calls

pub some_first : (xs ys : List disk.Call) (before after : Option DiskTold) → AddedSome xs before after → AddedSome (xs ++ ys) before after
some_first xs ys before after a = record {
  calls = a.calls;
  left = a.left ++ ys;
  whole = sym (append_assoc a.calls a.left ys) ∙ ap (λ zs. zs ++ ys) a.whole;
  added = a.added;
}

pub some_then : (xs ys : List disk.Call) (before between after : Option DiskTold) → Added before xs between → AddedSome ys between after → AddedSome (xs ++ ys) before after
some_then xs ys before between after a b = record {
  calls = xs ++ b.calls;
  left = b.left;
  whole = append_assoc xs b.calls b.left ∙ ap (λ zs. xs ++ zs) b.whole;
  added = added_more before between after xs b.calls a b.added;
}

-- the next write was called, or not
next_calls : (files : List FileWrite) (last : List disk.Call) → IsNextWrite files last → (left : List disk.Call) × (last ++ left ≡ map write_of files)
next_calls files [] n = (map write_of files, refl)
next_calls [] (call ∷ calls) n = absurd n
next_calls (it ∷ files) (call ∷ calls) n = (map write_of files, ap (λ these. these ++ map write_of files) n)

pub some_writes : (files : List FileWrite) (before after : Option DiskTold) (old new : Replicas) → WroteSome before old files new after → AddedSome (map write_of files) before after
some_writes files before after old new s =
    let next = next_calls s.more s.last s.next in
    record {
      calls = map write_of s.done ++ s.last;
      left = next.0;
      whole = append_assoc (map write_of s.done) s.last next.0 ∙ ap (λ calls. map write_of s.done ++ calls) next.1 ∙ sym (map-append write_of s.done s.more) ∙ ap (map write_of) (sym s.split);
      added = s.added;
    }

-- ---- as the plan has them

abbrev plan_call : disk.Call → plan.Call
plan_call call = (made_of call).call

do_leads : {A : Type 0} (calls : List disk.Call) (left : List plan.Call) (rest : Plan A) → Leads (do_all (map plan_call calls ++ left) rest) calls (do_all left rest)
do_leads [] left rest = refl
do_leads (call ∷ calls) left rest = (refl, do_leads calls left rest)

map_flat : {A B C : Type 0} (f : B → C) (g : A → List B) (h : A → List C) (xs : List A) → ((x : A) → map f (g x) ≡ h x) → map f (flat_map g xs) ≡ flat_map h xs
map_flat f g h [] e = refl
map_flat f g h (x ∷ xs) e = map-append f (g x) (flat_map g xs) ∙ (λ i. e x i ++ map_flat f g h xs e i)

abbrev node_for : Setup → ℕ → ℕ → ℕ → plan.Call
node_for setup t b k = planned (copy_of setup.schedule.nodes t b [] k)

block_planned : (setup : Setup) (tables : List (List Record)) (t b : ℕ) → map planned (block_files setup tables t b) ≡ map (node_for setup t b) (below setup.schedule.copies)
block_planned setup tables t b = map_twice planned (copy_of setup.schedule.nodes t b (block_bytes setup tables t b)) (below setup.schedule.copies)

files_planned : (setup : Setup) (tables : List (List Record)) → map planned (load_files setup tables) ≡ block_writes setup
files_planned setup tables =
    map_flat planned (table_files setup tables) _ _ (λ t. map_flat planned (block_files setup tables t) _ _ (λ b. block_planned setup tables t b))

calls_planned : (setup : Setup) (tables : List (List Record)) → map plan_call (load_calls setup tables) ≡ map plan.Wipe (below setup.schedule.nodes) ++ block_writes setup
calls_planned setup tables =
    map-append plan_call (map disk.Wipe (below setup.schedule.nodes)) (map write_of (load_files setup tables))
    ∙ (λ i. map_twice plan_call disk.Wipe (below setup.schedule.nodes) i ++ (map_twice plan_call write_of (load_files setup tables) ∙ files_planned setup tables) i)

some_lead : (setup : Setup) (tables : List (List Record)) (calls left : List disk.Call) → calls ++ left ≡ load_calls setup tables → Leads (load setup) calls (do_all (map plan_call left) (gives (loaded setup)))
some_lead setup tables calls left whole =
    subst (λ planned. Leads (do_all planned (gives (loaded setup))) calls (do_all (map plan_call left) (gives (loaded setup))))
    (sym (map-append plan_call calls left) ∙ ap (map plan_call) whole ∙ calls_planned setup tables)
    (do_leads calls (map plan_call left) (gives (loaded setup)))

wipes_answered : (nodes : List ℕ) → AreAnswered (map disk.Wipe nodes)
wipes_answered [] = tt
wipes_answered (n ∷ nodes) = (refl, wipes_answered nodes)

writes_answered : (files : List FileWrite) → AreAnswered (map write_of files)
writes_answered [] = tt
writes_answered (it ∷ files) = (refl, writes_answered files)

load_follows : (setup : Setup) (tables : List (List Record)) (before after : Option DiskTold) → Added before (load_calls setup tables) after → Follows (load setup) before after (gives (loaded setup))
load_follows setup tables before after a = record {
  calls = load_calls setup tables;
  answered = all_both (λ call. (made_of call).missed ≡ false) (map disk.Wipe (below setup.schedule.nodes)) (map write_of (load_files setup tables)) (wipes_answered (below setup.schedule.nodes)) (writes_answered (load_files setup tables));
  added = a;
  leads = some_lead setup tables (load_calls setup tables) [] (append-nil (load_calls setup tables));
}

load_begun : (setup : Setup) (tables : List (List Record)) (before after : Option DiskTold) → AddedSome (load_calls setup tables) before after → Begun (load setup) before after
load_begun setup tables before after a = record {
  calls = a.calls;
  rest = do_all (map plan_call a.left) (gives (loaded setup));
  added = a.added;
  leads = some_lead setup tables a.calls a.left a.whole;
}

-- ---- the table

pub is_loaded : (setup : Setup) (tables : List (List Record)) (table : Replicas) → table ≡ table_with (load_files setup tables) (empty_table setup.schedule.nodes) → IsLoaded setup table
is_loaded setup tables table e = subst (IsLoaded setup) (sym e) (record {
  nodes = refl;
  up = refl;
  copies = copies_planned (load_files setup tables) [] ∙ ap (λ calls. written calls []) (files_planned setup tables);
})

-- ---- texts

texts_of : (w : World) (files : List FileWrite) → AllByRecursion (HasItsText w) files → AllByRecursion (IsRightCall w) (map write_of files)
texts_of w files a = all_mapped (HasItsText w) (IsRightCall w) write_of files (λ file t. text_is w file.name file.bytes t) a

wipes_texts : (w : World) (nodes : List ℕ) → AllByRecursion (IsRightCall w) (map disk.Wipe nodes)
wipes_texts w [] = tt
wipes_texts w (n ∷ nodes) = (tt, wipes_texts w nodes)

-- ---- by what was answered

pub answered_follows : {A B : Type 0} (result : Result A B) (setup : Setup) (tables : List (List Record)) (before after : Option DiskTold) → OnOk result (Added before (load_calls setup tables) after) → OnOk result (Follows (load setup) before after (gives (loaded setup)))
answered_follows (Ok a) setup tables before after h = load_follows setup tables before after h
answered_follows (Err b) setup tables before after h = tt

pub stopped_begun : {A B : Type 0} (result : Result A B) (setup : Setup) (tables : List (List Record)) (before after : Option DiskTold) → OnErr result (AddedSome (load_calls setup tables) before after) → OnErr result (Begun (load setup) before after)
stopped_begun (Ok a) setup tables before after h = tt
stopped_begun (Err b) setup tables before after h = load_begun setup tables before after h

pub any_texts : {A B : Type 0} (result : Result A B) (w : World) (setup : Setup) (tables : List (List Record)) (before after : Option DiskTold) → AllByRecursion (HasItsText w) (load_files setup tables)
    → OnOk result (Added before (load_calls setup tables) after) → OnErr result (AddedSome (load_calls setup tables) before after) → OnTold (RightCalls w) before after
any_texts (Ok a) w setup tables before after t done some =
    such_added (IsRightCall w) before after (load_calls setup tables) done (all_both (IsRightCall w) (map disk.Wipe (below setup.schedule.nodes)) (map write_of (load_files setup tables)) (wipes_texts w (below setup.schedule.nodes)) (texts_of w (load_files setup tables) t))
any_texts (Err b) w setup tables before after t done some =
    let all = all_both (IsRightCall w) (map disk.Wipe (below setup.schedule.nodes)) (map write_of (load_files setup tables)) (wipes_texts w (below setup.schedule.nodes)) (texts_of w (load_files setup tables) t) in
    such_added (IsRightCall w) before after some.calls some.added (all_front (IsRightCall w) some.calls some.left (subst (AllByRecursion (IsRightCall w)) (sym some.whole) all))
