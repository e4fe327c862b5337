-- What stays right over the steps of a turn.
use Rattle.std.proofs.Common.{◌≡◌, ◌≤◌, ℕ, zero, suc, ◌+◌, ◌||◌, true, nat_lt, List, [], ◌∷◌, Option, None, Some, IsSome, length, slice_get, map, refl, sym, ap, ◌∙◌, subst}
use Rattle.std.proofs.lemmas.Bool.{le-ltb}
use Rattle.std.specs.List.{list_all, range_with_len}
use Rattle.hal_base.specs.declared.record.Record.{Record}
use Rattle.hal_base.specs.Meaning.{Meaning}
use Rattle.hal_base.specs.declared.shape.Shape.{Shape}
use Rattle.hal_outside.specs.DiskTold.{DiskTold}
use Rattle.node_names.specs.declared.name.Name.{Name}
use Rattle.name_values.specs.Values.{World}
use Rattle.plain_job.specs.Chain.{last_out}
use Rattle.plain_job.specs.Ends.{Ends, Reaches}
use Rattle.replica_table.specs.Copies.{Copy, Replicas}
use Rattle.replica_table.specs.Sets.{among}
use Rattle.run_laws.proofs.Members.{and_true}
use Rattle.run_model.specs.Advance.{is_decided}
use Rattle.run_model.specs.Needs.{is_up}
use Rattle.run_model.specs.State.{Setup, bare}
use Rattle.run_model.specs.Tasks.{last_outs, test_count}
use Rattle.task_values.specs.Attempts.{names_of}
use Rattle.task_values.specs.Reads.{Answer, AreOfValues}
use Rattle.task_values.specs.Tests.{test_of}
use Rattle.task_values.specs.Worlds.{WorldFits}
use Rattle.task_values.proofs.LastParts.{parts_read}
use Rattle.valid_copies.specs.Stands.{Stands}
use Rattle.cluster_core.specs.Deciding.{Tells, decision_of, end_of}
use Rattle.cluster_core.specs.States.{Kept, is_known, known_in, plain_of, seen_of}
use Rattle.cluster_core.specs.Turns.{IsOfChain, IsRight, Rightly}
use Rattle.cluster_core.specs.Works.{StandsFor, StaysRight, world_of}
use Rattle.cluster_core.specs.declared.finished.Finished.{Finished}
use Rattle.cluster_core.proofs.Decided.{decision_tells, goes_until, same_decision, total_is}
use Rattle.cluster_core.proofs.Known.{all_is}
use Rattle.cluster_core.proofs.PartLoops.{value_in}

-- ---- parts

abbrev answer_of : World → Name → Answer
answer_of w name = record { name = name; list = value_in w name }

names_are : (w : World) (names : List Name) → names_of (map (answer_of w) names) ≡ names
names_are w [] = refl
names_are w (name ∷ names) = ap (λ ns. name ∷ ns) (names_are w names)

values_are : (w : World) (names : List Name) → AreOfValues w 0 (map (answer_of w) names)
values_are w [] = tt
values_are w (name ∷ names) = (refl, values_are w names)

lists_are : (w : World) (names : List Name) → map (λ (a : Answer). a.list) (map (answer_of w) names) ≡ map (value_in w) names
lists_are w [] = refl
lists_are w (name ∷ names) = ap (λ ls. value_in w name ∷ ls) (lists_are w names)

-- the values of the last outputs are what the chain leaves
pub parts_right : (w : World) → WorldFits w → (i : ℕ) → 1 ≤ i → map (value_in w) (last_outs w.shape i) ≡ last_out w.means w.shape w.tables i
parts_right w fits i some = sym (lists_are w (last_outs w.shape i)) ∙ parts_read w fits.well_formed i (map (answer_of w) (last_outs w.shape i)) some (names_are w (last_outs w.shape i)) (values_are w (last_outs w.shape i))

-- ---- states

-- what a state stands for rests on its copies, its values and its round alone
pub same_stands : (w : World) (old new : Kept) (told : Option DiskTold) → new.table ≡ old.table → new.values ≡ old.values → new.round ≡ old.round → StandsFor w old told → StandsFor w new told
same_stands w old new told table values round s = record {
  reached = subst (Reaches w.means w.shape w.tables) (sym round) s.reached;
  copies = subst (λ (t : Replicas). Stands w t.copies told) (sym table) s.copies;
  values = λ p value e. s.values p value (ap (λ vs. slice_get vs p) (sym values) ∙ e) ∙ ap (λ i. test_of w i p) (sym round);
}

-- once a round is decided, the values of its tests are known
pub known_where : (setup : Setup) (kept : Kept) → length kept.values ≡ test_count setup.shape → is_decided setup (plain_of setup.schedule kept) ≡ true → 2 ≤ kept.round → list_all is_known kept.values ≡ true
known_where setup kept tests decided late =
    let both = and_true (list_all (is_up (bare kept.table.copies) kept.table.up) (last_outs setup.shape kept.round)) (nat_lt kept.round 2 || list_all (λ p. among p (known_in kept.values)) (range_with_len 0 (test_count setup.shape))) decided in
    sym (all_is kept.values)
    ∙ ap (λ n. list_all (λ p. among p (known_in kept.values)) (range_with_len 0 n)) tests
    ∙ ap (λ b. b || list_all (λ p. among p (known_in kept.values)) (range_with_len 0 (test_count setup.shape))) (sym (le-ltb kept.round 2 late))
    ∙ both.1

-- the decision of a round that is decided
pub decided_tells : (w : World) (setup : Setup) (shows : Type 0) (told : Option DiskTold) (kept : Kept) → Rightly w setup.shape shows told kept → length kept.values ≡ test_count setup.shape → is_decided setup (plain_of setup.schedule kept) ≡ true → 1 ≤ kept.round → kept.round ≤ setup.shape.rounds
    → Tells w kept.round (decision_of setup.shape kept.round kept.values)
decided_tells w setup shows told kept right tests decided begun in_time =
    subst (λ (shape : Shape). Tells w kept.round (decision_of shape kept.round kept.values)) right.shape_is
    (decision_tells w kept.round kept.values right.fits begun (subst (λ (shape : Shape). kept.round ≤ shape.rounds) (sym right.shape_is) in_time) right.stands.reached
    (λ late. (known_where setup kept tests decided late, tests ∙ ap test_count (sym right.shape_is))) right.stands.values)

-- a state keeps to the chain that it stands for
pub of_chain : (setup : Setup) (kept : Kept) → length kept.values ≡ test_count setup.shape → IsOfChain (seen_of setup.shape setup.schedule kept)
of_chain setup kept tests w told shape fits stands = (
  goes_until w kept.round stands.reached,
  λ decided. same_decision w kept.round kept.values (λ late. total_is w kept.round kept.values fits late stands.reached.within.1 (known_where setup kept tests decided late) (tests ∙ ap test_count (sym shape)) stands.values)
      ∙ ap (λ (shape : Shape). decision_of shape kept.round kept.values) shape,
)

-- no value is known of those that are forgotten
forgot : (values : List (Option ℕ)) (p value : ℕ) → slice_get (map (λ (_ : Option ℕ). None) values) p ≡ Some (Some value) → ⊥
forgot [] p value e = cc
forgot (v ∷ values) zero value e = cc
forgot (v ∷ values) (suc p) value e = forgot values p value e

-- the state of the next round
pub next_stands : (w : World) (old new : Kept) (told : Option DiskTold) → Tells w old.round None → Stands w new.table.copies told → new.values ≡ map (λ (_ : Option ℕ). None) old.values → new.round ≡ old.round + 1 → StandsFor w new told
next_stands w old new told tells copies values round = record {
  reached = subst (Reaches w.means w.shape w.tables) (sym round) tells;
  copies = copies;
  values = λ p value e. absurd (forgot old.values p value (ap (λ vs. slice_get vs p) (sym values) ∙ e));
}

-- the run ends with the parts of the chain
pub end_right : (w : World) (setup : Setup) (shows : Type 0) (before after : Option DiskTold) (old new : Kept) (it : Finished) → Rightly w setup.shape shows before old → ((copies : List Copy) → Stands w copies before → Stands w copies after)
    → Tells w old.round (Some it.end) → 1 ≤ old.round → it.rounds ≡ old.round → it.parts ≡ map (value_in w) (last_outs setup.shape old.round)
    → new.table ≡ old.table → new.values ≡ old.values → new.round ≡ old.round → IsRight w after new (Some it)
end_right w setup shows before after old new it right stands tells begun rounds parts table values round = (
  same_stands w old new after table values round (record { reached = right.stands.reached; copies = stands old.table.copies right.stands.copies; values = right.stands.values }),
  subst (λ i. Ends w.means w.shape w.tables i (end_of it.end)) (sym rounds) tells,
  parts ∙ ap (λ (shape : Shape). map (value_in w) (last_outs shape old.round)) (sym right.shape_is) ∙ parts_right w right.fits old.round begun ∙ ap (last_out w.means w.shape w.tables) (sym rounds),
)

-- ---- steps that change neither copies, nor values, nor the round

pub same_right : (m : Meaning) (setup : Setup) (shows : Type 0) (told : Option DiskTold) (old new : Kept) → new.table ≡ old.table → new.values ≡ old.values → new.round ≡ old.round → StaysRight m setup shows told told old new
same_right m setup shows told old new table values round tables fits s t stands = same_stands (world_of m setup tables) old new told table values round stands

-- first such a step, and then another
pub then_right : (m : Meaning) (setup : Setup) (shows : Type 0) (before after : Option DiskTold) (old middle new : Kept) → middle.table ≡ old.table → middle.values ≡ old.values → middle.round ≡ old.round → StaysRight m setup shows before after middle new → StaysRight m setup shows before after old new
then_right m setup shows before after old middle new table values round right tables fits s t stands = right tables fits s t (same_stands (world_of m setup tables) old middle before table values round stands)

-- advance, and then what acts
pub acted_right : (m : Meaning) (setup : Setup) (shows shows' : Type 0) (before middle after : Option DiskTold) (old advanced new : Kept)
    → (shows → shows') → (IsSome before → IsSome middle)
    → ((w : World) → Rightly w setup.shape shows before old → IsRight w middle advanced None) → StaysRight m setup shows' middle after advanced new
    → (tables : List (List Record)) → WorldFits (world_of m setup tables) → shows → IsSome before → StandsFor (world_of m setup tables) old before → IsRight (world_of m setup tables) after new None
acted_right m setup shows shows' before middle after old advanced new shown told first later tables fits s t stands =
    later tables fits (shown s) (told t) (first (world_of m setup tables) (record { shape_is = refl; fits = fits; shown = s; told_is = t; stands = stands }))
