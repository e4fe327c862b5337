-- A run that has an outcome is a load, in which no read missed, and then turns.
use Rattle.std.proofs.Common.{◌≡◌, ℕ, false, List, [], ◌∷◌, ◌++◌, Option, refl, sym, ap, subst, ◌∙◌, map, length}
use Rattle.std.specs.Prelude.{slice_index}
use Rattle.std.specs.List.{AllByRecursion, flat_map}
use Rattle.counter_report.specs.declared.journal.EndWord.{EndWord}
use Rattle.node_names.specs.declared.name.Name.TheVariants.{Blk}
use Rattle.run_model.specs.Lists.{below, number_of}
use Rattle.run_model.specs.Plans.{Call, Leaves, Made, Plan, Wipe, Write, do_all, gives, ◌>>=◌}
use Rattle.run_model.specs.Runs.{block_writes, loaded, node_of, turns}
use Rattle.run_model.specs.State.{Setup}
use Rattle.run_model.specs.Turns.{Turned}
use Rattle.run_causes.specs.States.{AreBehindLoad, HasOutcome, TurnsAreBehindLoad, if_read, is_missed}
use Rattle.run_causes.proofs.Along.{IsNoRead, all_no_reads, each_no_reads, no_reads, not_missed, one_made}

module _ (setup : Setup) (decisions : ℕ → Option EndWord) (n : ℕ) (rest : Plan Turned) (outcome : HasOutcome rest) where
  behind_calls : (calls : List Call) (made : List Made) → AllByRecursion IsNoRead calls → Leaves (do_all calls (gives (loaded setup)) >>= turns n setup decisions) made rest → AreBehindLoad setup decisions n made rest
  behind_calls [] made w l = record { of_load = []; of_turns = made; both = refl; leaves = l; missed = refl }
  behind_calls (call ∷ calls) [] w l = absurd (subst HasOutcome (sym l) outcome)
  behind_calls (call ∷ calls) (m ∷ made) w l =
      let b = behind_calls calls made w.1 l.1 in
      record {
        of_load = m ∷ b.of_load;
        of_turns = b.of_turns;
        both = ap (λ ms. m ∷ ms) b.both;
        leaves = b.leaves;
        missed = one_made m made false (ap (λ c. if_read c m.missed) l.0 ∙ not_missed call m.missed w.0) ∙ b.missed;
      }

load_reads_nothing : (setup : Setup) → AllByRecursion IsNoRead (map Wipe (below setup.schedule.nodes) ++ block_writes setup)
load_reads_nothing setup = all_no_reads (map Wipe (below setup.schedule.nodes)) (block_writes setup) (no_reads Wipe (below setup.schedule.nodes) (λ n. refl))
    (each_no_reads (λ t. flat_map (λ b. map (λ k. Write (node_of t b k setup.schedule.nodes) (Blk t b)) (below setup.schedule.copies)) (below (slice_index setup.shape.blocks t))) (below (length setup.shape.blocks)) (λ t.
    each_no_reads (λ b. map (λ k. Write (node_of t b k setup.schedule.nodes) (Blk t b)) (below setup.schedule.copies)) (below (slice_index setup.shape.blocks t)) (λ b.
    no_reads (λ k. Write (node_of t b k setup.schedule.nodes) (Blk t b)) (below setup.schedule.copies) (λ k. refl))))

pub turns_are_behind_load : TurnsAreBehindLoad
turns_are_behind_load setup decisions n made rest outcome l = behind_calls setup decisions n rest outcome (map Wipe (below setup.schedule.nodes) ++ block_writes setup) made (load_reads_nothing setup) l
