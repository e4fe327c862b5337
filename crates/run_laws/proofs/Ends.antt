-- Every run ends.
use Rattle.std.proofs.Common.{ℕ, zero, suc, ◌<◌, List, [], ◌∷◌, ◌++◌, Option, map, arith}
use Rattle.counter_report.specs.declared.journal.EndWord.{EndWord}
use Rattle.run_model.specs.Lists.{below}
use Rattle.run_model.specs.PlanLaws.{Always}
use Rattle.run_model.specs.Plans as call
use Rattle.run_model.specs.Plans.{Call, do_all, gives, refuses, ◌>>=◌}
use Rattle.run_model.specs.Runs.{block_writes, loaded, state_of, turns, unless_ended}
use Rattle.run_model.specs.State.{PlainCluster, Setup}
use Rattle.run_model.specs.Turns.{Turned, acted, ends, turn}
use Rattle.run_laws.specs.Ending.{AllEndInTime, Any, IsEnd, OnActed, RunEnds}
use Rattle.run_laws.specs.Measures.{measure}
use Rattle.run_laws.specs.Refusals.{Cause}
use Rattle.run_laws.specs.States.{EndsInTime, Fits, Reached}
use Rattle.run_laws.specs.Turns.{TurnsByCalls}
use Rattle.run_laws.proofs.Causing.{turns_have_causes}
use Rattle.run_laws.proofs.Falling.{measure_falls}
use Rattle.run_laws.proofs.Loading.{load_is_reached}
use Rattle.run_laws.proofs.Plans.{always_any, always_both, always_leaves, always_then, caused_leaves}
use Rattle.run_laws.proofs.Reaching.{reached_after}

module _ (setup : Setup) (decisions : ℕ → Option EndWord) (fits : Fits setup) (in_time : AllEndInTime setup decisions) where
  turns_end : (n : ℕ) (c : PlainCluster) → Reached setup c → measure setup c < n → Always IsEnd Any (turns n setup decisions c)
  turns_end zero c h l = absurd (omega arith)
  turns_end (suc n) c h l =
      let t : EndsInTime setup c (decisions c.round) = in_time c.round h.time.in_time in
      let P : Turned → Type 0 = λ turned. Reached setup (state_of turned) × OnActed (λ d. measure setup d < measure setup c) turned in
      always_then Any P IsEnd (turn setup (decisions c.round) c) (unless_ended (turns n setup decisions))
      (always_any P (λ d. Reached setup d × Any d) (turn setup (decisions c.round) c) (always_both (λ turned. Reached setup (state_of turned)) (OnActed (λ d. measure setup d < measure setup c)) (Reached setup) Any (turn setup (decisions c.round) c) (reached_after setup (decisions c.round) c fits t h) (measure_falls setup (decisions c.round) c fits t h)))
      (λ turned p. go (turns_end n) turned p.0 p.1)
    where
      less : (a b : ℕ) → a < b → b < suc n → a < n
      less a b x y = omega arith

      go : ((d : PlainCluster) → Reached setup d → measure setup d < n → Always IsEnd Any (turns n setup decisions d)) → (turned : Turned) → Reached setup (state_of turned) → OnActed (λ d. measure setup d < measure setup c) turned → Always IsEnd Any (unless_ended (turns n setup decisions) turned)
      go again (acted d) r m = again d r (less (measure setup d) (measure setup c) m l)
      go again (ends d end) r m = tt

pub run_ends : RunEnds
run_ends setup decisions n fits in_time l = always_load (map call.Wipe (below setup.schedule.nodes) ++ block_writes setup)
  where
    always_load : (calls : List Call) → Always IsEnd Any (do_all calls (gives (loaded setup)) >>= turns n setup decisions)
    always_load [] = turns_end setup decisions fits in_time n (loaded setup) (load_is_reached setup fits) l
    always_load (call ∷ calls) = always_load calls

-- ---- turns by their calls

pub turns_by_calls : TurnsByCalls
turns_by_calls setup decision c made fits t h =
    let p = turn setup decision c in
    let reached = reached_after setup decision c fits t h in
    let falls = measure_falls setup decision c fits t h in
    let R : Turned → Type 0 = λ turned. Reached setup (state_of turned) in
    let F : Turned → Type 0 = OnActed (λ d. measure setup d < measure setup c) in
    record {
      went_on = λ d e. (always_leaves R (Reached setup) p (gives (acted d)) made reached e, always_leaves F Any p (gives (acted d)) made falls e);
      ended = λ d end e. always_leaves R (Reached setup) p (gives (ends d end)) made reached e;
      was_refused = λ d why e. (always_leaves R (Reached setup) p (refuses d why) made reached e, caused_leaves (Cause setup) p (refuses d why) made (turns_have_causes setup decision c) e);
    }
