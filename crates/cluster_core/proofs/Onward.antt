-- What follows on a round: plans of advance, part by part.
use Rattle.std.proofs.Common.{◌≡◌, true, false, [], ◌∷◌, List, Option, None, Some, refl, sym, subst}
use Rattle.hal_base.specs.declared.record.Record.{Record}
use Rattle.hal_outside.specs.DiskTold.{DiskTold}
use Rattle.counter_report.specs.declared.journal.EndWord.{EndWord}
use Rattle.counter_report.specs.declared.journal.Entry.TheVariants as line
use Rattle.run_model.specs.Advance.{Advanced, advance, decide, finished, goes_on, is_decided, next_round, pass, passed, read_parts}
use Rattle.run_model.specs.Plans.{Plan, gives, ◌>>=◌}
use Rattle.run_model.specs.State.{PlainCluster, Setup, noted}
use Rattle.run_model.specs.Tasks.{last_outs}
use Rattle.valid_copies.specs.Calls.{Begun, Follows}
use Rattle.valid_copies.specs.declared.fault.WorkFault.{WorkFault}
use Rattle.valid_copies.specs.declared.fault.WorkFault.TheVariants as work
use Rattle.valid_copies.proofs.Following.{begun_first, follows_bind, missed_first}
use Rattle.cluster_core.specs.Faults.{StoppedIn}
use Rattle.cluster_core.specs.Turns.{advance_by, parts_read}

-- ---- plans that stop

pub stopped_first : {A B : Type 0} (plan : Plan A) (f : A → Plan B) (before after : Option DiskTold) (fault : WorkFault) → StoppedIn plan before after fault → StoppedIn (plan >>= f) before after fault
stopped_first plan f before after (work.Device device) s = begun_first plan f before after s
stopped_first plan f before after work.Missed s = missed_first plan f before after s
stopped_first plan f before after work.Memory s = begun_first plan f before after s

pub begun_so_far : {A : Type 0} (plan rest : Plan A) (before after : Option DiskTold) → Follows plan before after rest → Begun plan before after
begun_so_far plan rest before after f = record { calls = f.calls; rest = rest; added = f.added; leads = f.leads }

-- ---- advance

pub undecided : (setup : Setup) (d : Option EndWord) (c : PlainCluster) → is_decided setup c ≡ false → advance setup d c ≡ gives (goes_on (record c { events = passed c.round c.events }))
undecided setup d c e = rw e refl

pub decided : (setup : Setup) (d : Option EndWord) (c : PlainCluster) → is_decided setup c ≡ true → advance setup d c ≡ advance_by setup d c
decided setup d c e = rw e refl

-- the next round begins, and then events are spent
pub begins_next : (setup : Setup) (c d new : PlainCluster) (before after : Option DiskTold) → Follows (next_round setup c) before after (gives d) → new ≡ record d { events = passed d.round d.events } → Follows (advance_by setup None c) before after (gives (goes_on new))
begins_next setup c d new before after f e =
    subst (λ x. Follows (advance_by setup None c) before after (gives (goes_on x))) (sym e)
    (follows_bind (decide setup None c) (gives (goes_on d)) (λ it. gives (pass it)) before after (follows_bind (next_round setup c) (gives d) (λ next. gives (goes_on next)) before after f))

pub stops_next : (setup : Setup) (c : PlainCluster) (before after : Option DiskTold) (fault : WorkFault) → StoppedIn (next_round setup c) before after fault → StoppedIn (advance_by setup None c) before after fault
stops_next setup c before after fault s = stopped_first (decide setup None c) (λ it. gives (pass it)) before after fault (stopped_first (next_round setup c) (λ next. gives (goes_on next)) before after fault s)

-- the parts are read, and the run ends
pub ends_with : (setup : Setup) (end : EndWord) (c new : PlainCluster) (parts : List (List Record)) (before after : Option DiskTold)
    → Follows (read_parts end (last_outs setup.shape c.round) c) before after (gives (parts_read c (Some parts) end)) → new ≡ noted (line.End end c.round ∷ []) c → Follows (advance_by setup (Some end) c) before after (gives (finished new end))
ends_with setup end c new parts before after f e =
    subst (λ x. Follows (advance_by setup (Some end) c) before after (gives (finished x end))) (sym e)
    (follows_bind (decide setup (Some end) c) (gives (parts_read c (Some parts) end)) (λ it. gives (pass it)) before after f)

-- a part has no copy left, and the run goes on
pub goes_past : (setup : Setup) (end : EndWord) (c new : PlainCluster) (before after : Option DiskTold)
    → Follows (read_parts end (last_outs setup.shape c.round) c) before after (gives (parts_read c None end)) → new ≡ record c { events = passed c.round c.events } → Follows (advance_by setup (Some end) c) before after (gives (goes_on new))
goes_past setup end c new before after f e =
    subst (λ x. Follows (advance_by setup (Some end) c) before after (gives (goes_on x))) (sym e)
    (follows_bind (decide setup (Some end) c) (gives (parts_read c None end)) (λ it. gives (pass it)) before after f)

pub stops_ending : (setup : Setup) (end : EndWord) (c : PlainCluster) (before after : Option DiskTold) (fault : WorkFault) → StoppedIn (read_parts end (last_outs setup.shape c.round) c) before after fault → StoppedIn (advance_by setup (Some end) c) before after fault
stops_ending setup end c before after fault s = stopped_first (decide setup (Some end) c) (λ it. gives (pass it)) before after fault s

pub begins_ending : (setup : Setup) (end : EndWord) (c : PlainCluster) (rest : Advanced) (before after : Option DiskTold) → Follows (read_parts end (last_outs setup.shape c.round) c) before after (gives rest) → Begun (advance_by setup (Some end) c) before after
begins_ending setup end c rest before after f = begun_so_far (advance_by setup (Some end) c) (gives (pass rest)) before after (follows_bind (decide setup (Some end) c) (gives rest) (λ it. gives (pass it)) before after f)
