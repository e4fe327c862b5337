-- An attempt that is done, from its reads and its writes.
use Rattle.std.proofs.Common.{◌≡◌, inl, inr, ℕ, zero, suc, not, List, [], ◌∷◌, Option, Some, Result, Ok, Err, IfErr, OnOk, OnErr, slice_get, sym, ◌∙◌, subst}
use Rattle.std.specs.List.{filter}
use Rattle.std.proofs.lemmas.Result.{IfErr-weaker, on_ok_weaker}
use Rattle.counter_report.specs.declared.journal.Entry.TheVariants.{Starve}
use Rattle.hal_base.specs.declared.record.Record.{Record}
use Rattle.hal_outside.specs.DiskTold.{DiskTold}
use Rattle.run_model.specs.Acts.{finish, same_attempt}
use Rattle.run_model.specs.Attempts.{attempt_done, commit}
use Rattle.run_model.specs.Lists.{IsIn}
use Rattle.run_model.specs.Plans.{gives}
use Rattle.run_model.specs.Reading.{reading, starved}
use Rattle.run_model.specs.State.{PlainCluster, Setup, noted}
use Rattle.run_model.specs.declared.attempt.Attempt.{Attempt}
use Rattle.valid_copies.proofs.Following.{begun_first, begun_then, follows_none, follows_then, missed_first}
use Rattle.valid_copies.specs.Calls.{Begun, Follows}
use Rattle.valid_copies.specs.Faults.{AtMissed}
use Rattle.valid_copies.specs.ReadCounts.{read_so_far}
use Rattle.valid_copies.specs.declared.inputs.ReadCounts.{ReadCounts}
use Rattle.valid_copies.specs.declared.fault.WorkFault.{WorkFault}
use Rattle.valid_copies.specs.declared.fault.WorkFault.TheVariants.{Device, Missed, Memory}
use Rattle.cluster_core.specs.Faults.{StoppedIn}
use Rattle.cluster_core.specs.Finishing.{CanFinish, HasRead, commit_plan, read_plan}
use Rattle.cluster_core.specs.States.{Seen}
use Rattle.cluster_core.specs.Works.{CanWork}

module _ (seen : Seen) (a : Attempt) (before between after : Option DiskTold) where
  -- it read all, and committed
  pub read_and_committed : (shows : Type 0) (counts : ReadCounts) (lists : List (List (List Record))) (new : PlainCluster) (result : Result (Unit {0}) WorkFault)
      → HasRead seen a shows before between counts lists → OnOk result (Follows (commit_plan seen.setup a counts seen.plain) between after (gives new)) → OnOk result (Follows (attempt_done seen.setup a seen.plain) before after (gives new))
  read_and_committed shows counts lists new result read o = on_ok_weaker result (λ f. follows_then (read_plan seen a) (reading (read_so_far counts seen.plain)) (commit seen.setup a) (gives new) before between after read.follows f) o

  -- it read all, and something failed then
  pub read_and_begun : (shows : Type 0) (counts : ReadCounts) (lists : List (List (List Record))) (result : Result (Unit {0}) WorkFault)
      → HasRead seen a shows before between counts lists → OnErr result (Begun (commit_plan seen.setup a counts seen.plain) between after) → IfErr result (λ fault. AtMissed fault ⊥) → IfErr result (StoppedIn (attempt_done seen.setup a seen.plain) before after)
  read_and_begun shows counts lists (Ok x) read o m = tt
  read_and_begun shows counts lists (Err (Device device)) read o m = begun_then (read_plan seen a) (reading (read_so_far counts seen.plain)) (commit seen.setup a) before between after read.follows o
  read_and_begun shows counts lists (Err Missed) read o m = absurd m
  read_and_begun shows counts lists (Err Memory) read o m = begun_then (read_plan seen a) (reading (read_so_far counts seen.plain)) (commit seen.setup a) before between after read.follows o

module _ (seen : Seen) (a : Attempt) (before after : Option DiskTold) where
  -- it is starved
  pub starved_done : (new : PlainCluster) → Follows (read_plan seen a) before after (gives (starved seen.plain)) → new ≡ noted (Starve a.task a.node ∷ []) seen.plain → Follows (attempt_done seen.setup a seen.plain) before after (gives new)
  starved_done new read e = follows_then (read_plan seen a) (starved seen.plain) (commit seen.setup a) (gives new) before after after read (subst (λ c. Follows (commit seen.setup a (starved seen.plain)) after after (gives c)) (sym e) (follows_none (commit seen.setup a (starved seen.plain)) after))

  pub starved_begun : Follows (read_plan seen a) before after (gives (starved seen.plain)) → Begun (attempt_done seen.setup a seen.plain) before after
  starved_begun read = begun_first (read_plan seen a) (commit seen.setup a) before after (record { calls = read.calls; rest = gives (starved seen.plain); added = read.added; leads = read.leads })

  -- its reads stopped
  pub reads_stopped : (fault : WorkFault) → StoppedIn (read_plan seen a) before after fault → StoppedIn (attempt_done seen.setup a seen.plain) before after fault
  reads_stopped (Device device) s = begun_first (read_plan seen a) (commit seen.setup a) before after s
  reads_stopped Missed s = missed_first (read_plan seen a) (commit seen.setup a) before after s
  reads_stopped Memory s = begun_first (read_plan seen a) (commit seen.setup a) before after s

-- ---- the attempt that is taken out

pub in_got : {A : Type 0} (xs : List A) (n : ℕ) (x : A) → slice_get xs n ≡ Some x → IsIn x xs
in_got [] n x e = cc
in_got (y ∷ ys) zero x e = inl (same e)
  where
    same : Some y ≡ Some x → x ≡ y
    same e = cc
in_got (y ∷ ys) (suc n) x e = inr (in_got ys n x e)

pub can_finish : (setup : Setup) (c : PlainCluster) (a : Attempt) → CanWork setup c → IsIn a c.running → CanFinish setup a
can_finish setup c a w i = record { caches = w.caches; task = w.tasks a i; round = w.rounds a i; node = w.nodes a i }

pub stopped_out : (setup : Setup) (c : PlainCluster) (running : List Attempt) (at : ℕ) (a : Attempt) (result : Result (Unit {0}) WorkFault) (before after : Option DiskTold)
    → slice_get c.running at ≡ Some a → running ≡ filter (λ b. not (same_attempt a b)) c.running
    → IfErr result (StoppedIn (attempt_done setup a (record c { running = running })) before after)
    → IfErr result (λ fault. (b : Attempt) → slice_get c.running at ≡ Some b → StoppedIn (finish setup b c) before after fault)
stopped_out setup c running at a result before after there left s =
    IfErr-weaker result (StoppedIn (attempt_done setup a (record c { running = running })) before after) (λ fault. (b : Attempt) → slice_get c.running at ≡ Some b → StoppedIn (finish setup b c) before after fault)
    (λ fault t b e. subst (λ (x : Attempt). StoppedIn (finish setup x c) before after fault) (same b (sym there ∙ e)) (subst (λ rs. StoppedIn (attempt_done setup a (record c { running = rs })) before after fault) left t)) s
  where
    same : (b : Attempt) → Some a ≡ Some b → a ≡ b
    same b e = cc
