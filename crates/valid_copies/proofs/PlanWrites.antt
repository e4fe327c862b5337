-- Writes, as plans have them.
use Rattle.std.proofs.Common.{◌≡◌, ℕ, List, [], ◌∷◌, ◌++◌, Option, map, refl, sym, ap, ◌∙◌, subst}
use Rattle.std.proofs.lemmas.List.{map-append}
use Rattle.node_names.specs.declared.name.Name.{Name}
use Rattle.hal_outside.specs.DiskCalls as disk
use Rattle.hal_outside.specs.DiskTold.{DiskTold}
use Rattle.replica_table.specs.Copies.{Copy, Replicas}
use Rattle.run_model.proofs.Bare.{bare_with}
use Rattle.run_model.specs.Attempts.{written, writes_to}
use Rattle.run_model.specs.Plans as plan
use Rattle.run_model.specs.Plans.{Plan, do_all}
use Rattle.run_model.specs.State.{bare}
use Rattle.replica_table.specs.Copies.{with_copy}
use Rattle.valid_copies.proofs.Following.{leads_more}
use Rattle.valid_copies.specs.Calls.{AreAnswered, Begun, Follows, Leads}
use Rattle.valid_copies.specs.Stands.{copy_of_bytes}
use Rattle.valid_copies.specs.Writes.{FileWrite, IsNextWrite, Wrote, WroteSome, copies_with, write_of, writes_at}

-- a write, as a plan has it
abbrev pub planned : FileWrite → plan.Call
planned it = plan.Write it.node it.name

pub planned_at : (nodes : List ℕ) (name : Name) (bytes : List ℕ) → map planned (writes_at nodes name bytes) ≡ writes_to nodes name
planned_at [] name bytes = refl
planned_at (n ∷ nodes) name bytes = ap (λ calls. plan.Write n name ∷ calls) (planned_at nodes name bytes)

-- the copies that the table has are those that a plan notes
pub copies_planned : (writes : List FileWrite) (copies : List Copy) → bare (copies_with writes copies) ≡ written (map planned writes) (bare copies)
copies_planned [] copies = refl
copies_planned (it ∷ writes) copies =
    copies_planned writes (with_copy (copy_of_bytes it.name it.node it.bytes) copies)
    ∙ ap (written (map planned writes)) (bare_with (copy_of_bytes it.name it.node it.bytes) copies)

-- ---- calls that a plan does one after another

leads_writes : {A : Type 0} (writes : List FileWrite) (rest : Plan A) → Leads (do_all (map planned writes) rest) (map write_of writes) rest
leads_writes [] rest = refl
leads_writes (it ∷ writes) rest = (refl, leads_writes writes rest)

writes_answered : (writes : List FileWrite) → AreAnswered (map write_of writes)
writes_answered [] = tt
writes_answered (it ∷ writes) = (refl, writes_answered writes)

pub wrote_follows : {A : Type 0} (before after : Option DiskTold) (old new : Replicas) (writes : List FileWrite) (rest : Plan A) → Wrote before old writes new after → Follows (do_all (map planned writes) rest) before after rest
wrote_follows before after old new writes rest w = record { calls = map write_of writes; answered = writes_answered writes; added = w.added; leads = leads_writes writes rest }

pub do_both : {A : Type 0} (calls more : List plan.Call) (rest : Plan A) → do_all (calls ++ more) rest ≡ do_all calls (do_all more rest)
do_both [] more rest = refl
do_both (call ∷ calls) more rest = ap (plan.does call) (do_both calls more rest)

-- what is left of a plan to write more files, after the next call or none
next_left : {A : Type 0} (more : List FileWrite) (last : List disk.Call) (rest : Plan A) → IsNextWrite more last → (left : Plan A) × Leads (do_all (map planned more) rest) last left
next_left more [] rest n = (do_all (map planned more) rest, refl)
next_left [] (call ∷ calls) rest n = absurd n
next_left (it ∷ more) (call ∷ calls) rest n = (do_all (map planned more) rest, subst (λ made. Leads (do_all (map planned (it ∷ more)) rest) made (do_all (map planned more) rest)) (sym n) (refl, refl))

pub some_begun : {A : Type 0} (before after : Option DiskTold) (old new : Replicas) (writes : List FileWrite) (rest : Plan A) → WroteSome before old writes new after → Begun (do_all (map planned writes) rest) before after
some_begun before after old new writes rest s =
    let next = next_left s.more s.last rest s.next in
    let all : do_all (map planned writes) rest ≡ do_all (map planned s.done) (do_all (map planned s.more) rest) =
    ap (λ ws. do_all (map planned ws) rest) s.split ∙ ap (λ calls. do_all calls rest) (map-append planned s.done s.more) ∙ do_both (map planned s.done) (map planned s.more) rest in
    record {
      calls = map write_of s.done ++ s.last;
      rest = next.0;
      added = s.added;
      leads = subst (λ p. Leads p (map write_of s.done ++ s.last) next.0) (sym all) (leads_more (do_all (map planned s.done) (do_all (map planned s.more) rest)) (do_all (map planned s.more) rest) next.0 (map write_of s.done) s.last (leads_writes s.done (do_all (map planned s.more) rest)) next.1);
    }
