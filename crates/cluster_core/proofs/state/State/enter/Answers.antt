use Rattle.std.proofs.Common.{◌≡◌, ◌++◌, ℕ, Option, None, drop, length, map, take, ap, ◌∙◌, arith}
use Rattle.std.proofs.lemmas.List.{take_at}
use Rattle.cluster_core.specs.RoundChange.{entered}
use Rattle.cluster_core.specs.States.{Seen}
use Rattle.cluster_core.proofs.Inside.{kept_in}
use Rattle.cluster_core.proofs.RoundChanges.{entered_is}
use Rattle.cluster_core.proofs.state.State.enter.Goals as goal

pub returns-clause-entered : goal.returns-clause-entered
returns-clause-entered c =
    let values = c.self.inside.values in
    let left = c.forget.new.values in
    let many : length left ≡ values.len = omega (arith, c.forget.auto.values, ap length c.deref_mut.ensures.value, values.ok) in
    let stored : take values.len (left ++ drop (length left) values.items) ≡ left = take_at left (drop (length left) values.items) values.len many in
    let forgotten : take values.len (left ++ drop (length left) values.items) ≡ map (λ (_ : Option ℕ). None) values.items = stored ∙ c.forget.ensures ∙ ap (map (λ (_ : Option ℕ). None)) c.deref_mut.ensures.value in
    entered_is c.self.inside.schedule (kept_in c.self.inside) (take values.len (left ++ drop (length left) values.items)) c.push.new.self forgotten c.in_ok-push.ensures.ok
    ∙ ap (λ (s : Seen). entered s.plain) c.self.view_is
