-- What an attempt reads, where nothing is kept in caches.
use Rattle.std.proofs.Common.{◌≡◌, ◌-◌, ◌==◌, ℕ, Bool, true, false, cond, List, [], ◌∷◌, Option, None, Some, map, refl, sym, ap, ◌∙◌, subst}
use Rattle.std.specs.List.{AllByRecursion}
use Rattle.hal_base.specs.declared.record.Record.{Record}
use Rattle.hal_base.specs.declared.shape.Origin.{Origin}
use Rattle.hal_base.specs.declared.shape.Origin.TheVariants.{State, Prev, Table}
use Rattle.hal_base.specs.declared.shape.Shape.{Shape}
use Rattle.hal_base.specs.declared.shape.Source.{Source}
use Rattle.hal_base.specs.Shapes.{source_at}
use Rattle.hal_outside.specs.DiskTold.{DiskTold}
use Rattle.loop_scheduler.specs.Reads.{files_of}
use Rattle.node_files.specs.declared.files.FileRef.{FileRef}
use Rattle.node_names.specs.declared.name.Name.{Name}
use Rattle.node_names.specs.declared.name.Name.TheVariants.{Blk, Out, Spill}
use Rattle.node_names.specs.declared.task.Task.{Task}
use Rattle.node_names.specs.declared.task.Task.TheVariants.{Map, Reduce, Test}
use Rattle.plain_job.proofs.Lists.{all_both}
use Rattle.run_laws.proofs.RoundWalks.{not_cached}
use Rattle.run_laws.specs.WithoutLoss.{HasNoCaches}
use Rattle.run_model.specs.Lists.{below}
use Rattle.run_model.specs.Needs.{Input, input, inputs, reduce_input, test_inputs}
use Rattle.run_model.specs.Plans.{gives}
use Rattle.run_model.specs.Reading.{nothing_read, read_inputs, reading, starved}
use Rattle.run_model.specs.State.{PlainCluster, Setup}
use Rattle.run_model.specs.Tasks.{is_cached, last, last_outs, source_numbers, split_in, split_of, splits}
use Rattle.run_model.specs.declared.attempt.Attempt.{Attempt}
use Rattle.valid_copies.specs.Calls.{Begun, Follows, MissedIn}
use Rattle.valid_copies.specs.Files.{Sees}
use Rattle.valid_copies.specs.Inputs as input_reads
use Rattle.valid_copies.specs.Inputs.{InputsRead, InputsStopped, OfPlan, counted_files, input_plan}
use Rattle.valid_copies.specs.ReadCounts.{read_so_far}
use Rattle.valid_copies.specs.declared.inputs.ReadCounts.{ReadCounts}
use Rattle.valid_copies.specs.Readings.{IsFile}
use Rattle.valid_copies.specs.declared.fault.WorkFault.{WorkFault}
use Rattle.valid_copies.specs.declared.fault.WorkFault.TheVariants.{Device, Missed, Memory}
use Rattle.cluster_core.specs.Faults.{StoppedIn}
use Rattle.cluster_core.specs.Finishing.{HasRead, desk_of, read_plan}
use Rattle.cluster_core.specs.States.{Kept, Seen, plain_of, seen_of}

-- ---- files

abbrev files_in : Input → List Name
files_in it = it.files

split_is_file : (shape : Shape) (i j : ℕ) (from : Origin) (q : ℕ) → IsFile (split_of shape i j from q)
split_is_file shape i j State q = elim (i == 1) as (λ b. IsFile (cond b (Blk shape.start q) (Out (i - 1) (last shape) q))) [ true ↦ tt | false ↦ tt ]
split_is_file shape i j Prev q = tt
split_is_file shape i j (Table t only) q = tt

split_files : (shape : Shape) (i j : ℕ) (o : Option Source) (q : ℕ) → AllByRecursion IsFile (split_in shape i j o q)
split_files shape i j None q = tt
split_files shape i j (Some source) q = (split_is_file shape i j source.from q, tt)

spill_files : (i j s : ℕ) (qs : List ℕ) → AllByRecursion IsFile (map (Spill i j s) qs)
spill_files i j s [] = tt
spill_files i j s (q ∷ qs) = (tt, spill_files i j s qs)

out_files : (i j : ℕ) (ps : List ℕ) → AllByRecursion IsFile (map (Out i j) ps)
out_files i j [] = tt
out_files i j (p ∷ ps) = (tt, out_files i j ps)

reduce_files : (shape : Shape) (i j p : ℕ) (ns : List ℕ) → AllByRecursion (AllByRecursion IsFile) (map files_in (map (λ s. reduce_input shape i j p s (is_cached (source_at shape j s))) ns))
reduce_files shape i j p [] = tt
reduce_files shape i j p (s ∷ ns) = (
  elim (is_cached (source_at shape j s)) as (λ b. AllByRecursion IsFile (reduce_input shape i j p s b).files) [ true ↦ spill_files 1 j s (splits shape 1 j s) | false ↦ spill_files i j s (splits shape i j s) ],
  reduce_files shape i j p ns,
)

test_files : (shape : Shape) (i p : ℕ) (b : Bool) → AllByRecursion (AllByRecursion IsFile) (map files_in (test_inputs shape i p b))
test_files shape i p true = ((tt, tt), ((tt, tt), tt))
test_files shape i p false = (all_both IsFile (last_outs shape i) (last_outs shape (i - 1)) (out_files i (last shape) (below shape.parts)) (out_files (i - 1) (last shape) (below shape.parts)), tt)

pub files_are : (shape : Shape) (task : Task) → AllByRecursion (AllByRecursion IsFile) (files_of shape task)
files_are shape (Map i j s q) = (split_files shape i j (source_at shape j s) q, tt)
files_are shape (Reduce i j p) = reduce_files shape i j p (source_numbers shape j)
files_are shape (Test i p) = test_files shape i p shape.reducer_output

-- ---- inputs without caches

reduce_plain : (shape : Shape) → HasNoCaches shape → (i j p : ℕ) (ns : List ℕ) → map (λ s. reduce_input shape i j p s (is_cached (source_at shape j s))) ns ≡ map (input None) (map files_in (map (λ s. reduce_input shape i j p s (is_cached (source_at shape j s))) ns))
reduce_plain shape caches i j p [] = refl
reduce_plain shape caches i j p (s ∷ ns) =
    let one : reduce_input shape i j p s (is_cached (source_at shape j s)) ≡ input None (reduce_input shape i j p s (is_cached (source_at shape j s))).files = subst (λ b. reduce_input shape i j p s b ≡ input None (reduce_input shape i j p s b).files) (sym (not_cached shape caches j s)) refl in
    ap (λ it. it ∷ map (λ s. reduce_input shape i j p s (is_cached (source_at shape j s))) ns) one
    ∙ ap (λ its. input None (reduce_input shape i j p s (is_cached (source_at shape j s))).files ∷ its) (reduce_plain shape caches i j p ns)

pub plain_inputs : (shape : Shape) → HasNoCaches shape → (task : Task) → inputs shape task ≡ map (input None) (files_of shape task)
plain_inputs shape caches (Map i j s q) = refl
plain_inputs shape caches (Reduce i j p) = reduce_plain shape caches i j p (source_numbers shape j)
plain_inputs shape caches (Test i p) = subst (λ b. test_inputs shape i p b ≡ map (input None) (map files_in (test_inputs shape i p b))) (sym caches.output) refl

-- ---- reads

module _ (setup : Setup) (kept : Kept) (caches : HasNoCaches setup.shape) (a : Attempt) where
  abbrev seen : Seen
  seen = seen_of setup.shape setup.schedule kept

  sees : Sees kept.table (plain_of setup.schedule kept)
  sees = record { copies = refl; up = refl }

  plan_is : input_plan a.node (files_of setup.shape a.task) (nothing_read (plain_of setup.schedule kept)) ≡ read_plan seen a
  plan_is = ap (λ its. read_inputs a.node its (reading (nothing_read (plain_of setup.schedule kept)))) (sym (plain_inputs setup.shape caches a.task))

  pub has_read : (shows : Type 0) (before after : Option DiskTold) (files : List FileRef) (lists : List (List (List Record))) (counts : ReadCounts)
      → InputsRead (desk_of seen a) shows before (files_of setup.shape a.task) [] files after lists → ((c : PlainCluster) → counted_files a.node files (nothing_read c) ≡ read_so_far counts c)
      → HasRead seen a shows before after counts lists
  has_read shows before after files lists counts it counted = record {
    reads = it.reads;
    each = it.each;
    rows = it.rows;
    added = it.added;
    texts = it.texts;
    follows =
        let end : counted_files a.node (input_reads.files_of it.reads) (nothing_read (plain_of setup.schedule kept)) ≡ read_so_far counts (plain_of setup.schedule kept) = ap (λ fs. counted_files a.node fs (nothing_read (plain_of setup.schedule kept))) (sym it.files) ∙ counted (plain_of setup.schedule kept) in
        subst (λ p. Follows p before after (gives (reading (read_so_far counts (plain_of setup.schedule kept))))) plan_is
        (subst (λ r. Follows (input_plan a.node (files_of setup.shape a.task) (nothing_read (plain_of setup.schedule kept))) before after (gives (reading r))) end (it.follows (plain_of setup.schedule kept) sees));
  }

  pub is_starved : (before after : Option DiskTold) → OfPlan (λ c plan. Follows plan before after (gives (starved c))) (desk_of seen a) (files_of setup.shape a.task) → Follows (read_plan seen a) before after (gives (starved (plain_of setup.schedule kept)))
  is_starved before after o = subst (λ p. Follows p before after (gives (starved (plain_of setup.schedule kept)))) plan_is (o (plain_of setup.schedule kept) sees)

  pub has_stopped : (before after : Option DiskTold) (fault : WorkFault) → InputsStopped (desk_of seen a) before (files_of setup.shape a.task) after fault → StoppedIn (read_plan seen a) before after fault
  has_stopped before after (Device device) s = subst (λ p. Begun p before after) plan_is (s (plain_of setup.schedule kept) sees)
  has_stopped before after Missed s = subst (λ p. MissedIn p before after) plan_is (s (plain_of setup.schedule kept) sees)
  has_stopped before after Memory s = subst (λ p. Begun p before after) plan_is (s (plain_of setup.schedule kept) sees)
