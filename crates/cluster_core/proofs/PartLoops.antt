-- Parts that are read, one after another.
use Rattle.std.proofs.Common.{◌≡◌, ◌<◌, ℕ, ◌+◌, ◌-◌, List, [], ◌∷◌, ◌++◌, Option, None, Some, IsSome, map, refl, sym, ap, ◌∙◌, subst, arith}
use Rattle.std.specs.List.{range_with_len}
use Rattle.std.proofs.lemmas.List.{map-append}
use Rattle.std.proofs.lemmas.List.FromFn.{map-range_with_len_more}
use Rattle.hal_base.specs.declared.record.Record.{Record}
use Rattle.hal_base.specs.declared.shape.Shape.{Shape}
use Rattle.counter_report.specs.declared.journal.EndWord.{EndWord}
use Rattle.counter_report.specs.declared.journal.EndWord.TheVariants.{Limit}
use Rattle.hal_outside.specs.DiskTold.{DiskTold}
use Rattle.node_names.specs.declared.name.Name.{Name}
use Rattle.node_names.specs.declared.name.Name.TheVariants.{Out}
use Rattle.name_values.specs.Values.{World, list_of, value_of}
use Rattle.replica_table.specs.Copies.{Copy, Replicas}
use Rattle.run_model.specs.Advance.{read_parts}
use Rattle.run_model.specs.Plans.{gives}
use Rattle.run_model.specs.State.{PlainCluster}
use Rattle.run_model.specs.Tasks.{last, last_outs}
use Rattle.valid_copies.specs.Calls.{Follows}
use Rattle.valid_copies.specs.Files.{Sees}
use Rattle.valid_copies.specs.Stands.{Stands}
use Rattle.valid_copies.specs.declared.fault.WorkFault.{WorkFault}
use Rattle.valid_copies.specs.declared.fault.WorkFault.TheVariants as work
use Rattle.valid_copies.proofs.Coming.{still_told}
use Rattle.valid_copies.proofs.Following.{begun_more, follows_more, follows_none, missed_more}
use Rattle.cluster_core.specs.Faults.{StoppedIn}
use Rattle.cluster_core.specs.Parts.{AreValuesOf, IsValueOf, PartFollows, PartStopped, PartsFollow, PartsStopped}
use Rattle.cluster_core.specs.Turns.{parts_read}
use Rattle.cluster_core.proofs.Onward.{begun_so_far}
use Rattle.cluster_core.proofs.PartReads.{seen_by}
use Rattle.cluster_core.proofs.Places.{range_more}

-- so many parts of the last step, from one on
abbrev pub outs_from : Shape → ℕ → ℕ → List Name
outs_from shape round p = map (Out round (last shape)) (range_with_len p (shape.parts - p))

abbrev pub value_in : World → Name → List Record
value_in w name = list_of 0 (value_of w name)

-- the parts before this one were read
pub record PartsSoFar (shape : Shape) (table : Replicas) (round : ℕ) (shows shows' : Type 0) (before now : Option DiskTold) (at : ℕ) (parts : List (List Record)) : Type 0 where
  pub follows : (c : PlainCluster) → Sees table c → (end : EndWord) → Follows (read_parts end (last_outs shape round) c) before now (read_parts end (outs_from shape round at) c)
  pub values : shows → IsSome before → (w : World) → w.shape ≡ shape → Stands w table.copies before → parts ≡ map (value_in w) (map (Out round (last shape)) (range_with_len 0 at))
  pub shown : shows → shows'
  pub stands : (w : World) (copies : List Copy) → Stands w copies before → Stands w copies now

pub parts_none : (shape : Shape) (table : Replicas) (round : ℕ) (shows : Type 0) (told : Option DiskTold) → PartsSoFar shape table round shows shows told told 0 []
parts_none shape table round shows told = record {
  follows = λ c sees end. subst (λ (n : ℕ). Follows (read_parts end (last_outs shape round) c) told told (read_parts end (map (Out round (last shape)) (range_with_len 0 n)) c)) (none shape.parts) (follows_none (read_parts end (last_outs shape round) c) told);
  values = λ s t w e stands. refl;
  shown = λ s. s;
  stands = λ w copies s. s;
}
  where
    none : (n : ℕ) → n ≡ n - 0
    none n = omega arith

module _ (shape : Shape) (table : Replicas) (round : ℕ) (shows shows' : Type 0) (before now : Option DiskTold) (at : ℕ) (parts : List (List Record)) (so_far : PartsSoFar shape table round shows shows' before now at parts) where
  told_now : IsSome before → IsSome now
  told_now t = let f = so_far.follows (seen_by table) (record { copies = refl; up = refl }) Limit in still_told before now f.calls f.added t

  next_outs : at < shape.parts → outs_from shape round at ≡ Out round (last shape) at ∷ outs_from shape round (at + 1)
  next_outs l = ap (map (Out round (last shape))) (range_more at shape.parts l)

  pub parts_more : (shows'' : Type 0) (after : Option DiskTold) (rows : List Record) (new : List (List Record)) → at < shape.parts
      → PartFollows table (Out round (last shape) at) now after (Some rows) → IsValueOf shape table shows' now (Out round (last shape) at) (Some rows)
      → (shows' → shows'') → ((w : World) (copies : List Copy) → Stands w copies now → Stands w copies after) → new ≡ parts ++ rows ∷ []
      → PartsSoFar shape table round shows shows'' before after (at + 1) new
  parts_more shows'' after rows new l follows value shown stands e = record {
    follows = λ c sees end. follows_more (read_parts end (last_outs shape round) c) (read_parts end (outs_from shape round at) c) (read_parts end (outs_from shape round (at + 1)) c) before now after (so_far.follows c sees end)
        (subst (λ outs. Follows (read_parts end outs c) now after (read_parts end (outs_from shape round (at + 1)) c)) (sym (next_outs l)) (follows c sees (read_parts end (outs_from shape round (at + 1)))));
    values = λ s t w sh st.
        e ∙ ap (λ ps. ps ++ rows ∷ []) (so_far.values s t w sh st) ∙ ap (λ row. map (value_in w) (map (Out round (last shape)) (range_with_len 0 at)) ++ row ∷ []) (value (so_far.shown s) (told_now t) w sh (so_far.stands w table.copies st))
        ∙ sym (map-append (value_in w) (map (Out round (last shape)) (range_with_len 0 at)) (Out round (last shape) at ∷ [])) ∙ ap (map (value_in w)) (sym (map-range_with_len_more (Out round (last shape)) 0 at at (zero_more at)));
    shown = λ s. shown (so_far.shown s);
    stands = λ w copies s. stands w copies (so_far.stands w copies s);
  }
    where
      zero_more : (n : ℕ) → 0 + n ≡ n
      zero_more n = omega arith

  pub parts_end : at ≡ shape.parts → PartsFollow shape table round before now (Some parts)
  parts_end e c sees end = subst (λ outs. Follows (read_parts end (last_outs shape round) c) before now (read_parts end outs c)) (ap (λ n. map (Out round (last shape)) (range_with_len at n)) none) (so_far.follows c sees end)
    where
      none : shape.parts - at ≡ 0
      none = omega (arith, e)

  pub values_end : at ≡ shape.parts → AreValuesOf shape table shows before (last_outs shape round) (Some parts)
  values_end e s t w sh st = so_far.values s t w sh st ∙ ap (λ n. map (value_in w) (map (Out round (last shape)) (range_with_len 0 n))) e

  pub parts_starve : (after : Option DiskTold) → at < shape.parts → PartFollows {A = List Record} table (Out round (last shape) at) now after None → PartsFollow shape table round before after None
  parts_starve after l follows c sees end = follows_more (read_parts end (last_outs shape round) c) (read_parts end (outs_from shape round at) c) (gives (parts_read c None end)) before now after (so_far.follows c sees end)
      (subst (λ outs. Follows (read_parts end outs c) now after (gives (parts_read c None end))) (sym (next_outs l)) (follows c sees (read_parts end (outs_from shape round (at + 1)))))

  stop_more : (c : PlainCluster) (end : EndWord) (after : Option DiskTold) (fault : WorkFault) → Follows (read_parts end (last_outs shape round) c) before now (read_parts end (outs_from shape round at) c) → StoppedIn (read_parts end (outs_from shape round at) c) now after fault → StoppedIn (read_parts end (last_outs shape round) c) before after fault
  stop_more c end after (work.Device device) f s = begun_more (read_parts end (last_outs shape round) c) (read_parts end (outs_from shape round at) c) before now after f s
  stop_more c end after work.Missed f s = missed_more (read_parts end (last_outs shape round) c) (read_parts end (outs_from shape round at) c) before now after f s
  stop_more c end after work.Memory f s = begun_more (read_parts end (last_outs shape round) c) (read_parts end (outs_from shape round at) c) before now after f s

  pub parts_stop : (after : Option DiskTold) (fault : WorkFault) → at < shape.parts → PartStopped table (Out round (last shape) at) now after fault → PartsStopped shape table round before after fault
  parts_stop after fault l stopped c sees end = stop_more c end after fault (so_far.follows c sees end) (subst (λ outs. StoppedIn (read_parts end outs c) now after fault) (sym (next_outs l)) (stopped c sees (read_parts end (outs_from shape round (at + 1)))))

  pub parts_memory : (after : Option DiskTold) (rows : List Record) → at < shape.parts → PartFollows table (Out round (last shape) at) now after (Some rows) → PartsStopped shape table round before after work.Memory
  parts_memory after rows l follows c sees end = begun_so_far (read_parts end (last_outs shape round) c) (read_parts end (outs_from shape round (at + 1)) c) before after
      (follows_more (read_parts end (last_outs shape round) c) (read_parts end (outs_from shape round at) c) (read_parts end (outs_from shape round (at + 1)) c) before now after (so_far.follows c sees end)
      (subst (λ outs. Follows (read_parts end outs c) now after (read_parts end (outs_from shape round (at + 1)) c)) (sym (next_outs l)) (follows c sees (read_parts end (outs_from shape round (at + 1))))))
