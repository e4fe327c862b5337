-- The rounds of the plain chain, one after another, and its end.
use Rattle.std.proofs.Common.{◌≡◌, ◌≢◌, ℕ, suc, ◌+◌, ◌<◌, ◌≤◌, Bool, true, false, List, length, refl, sym, ap, ◌∙◌, subst, arith}
use Rattle.std.specs.Prelude.{MatchBool}
use Rattle.std.proofs.lemmas.List.{append-nil}
use Rattle.hal_base.specs.declared.record.Record.{Record}
use Rattle.hal_base.specs.declared.shape.Shape.{Shape}
use Rattle.hal_base.specs.Meaning.{Meaning}
use Rattle.plain_job.specs.declared.ending.PlainResult.{PlainResult}
use Rattle.plain_job.specs.Chain.{last_out, parts_from, state_of, table_at, together}
use Rattle.plain_job.specs.Distances.{distance}
use Rattle.plain_job.specs.Ends.{Ends, EndsBy, IsPlainResult, Reaches, round_distance}
use Rattle.plain_job.specs.steps.Rounds.{end_by}
use Rattle.plain_job.proofs.Reaching.{first_reached, next_reached}

-- the chain comes to this round, which begins with this state
pub record Begins (m : Meaning) (shape : Shape) (tables : List (List Record)) (round : ℕ) (state : List Record) : Type 0 where
  pub n : ℕ
  pub round_is : round ≡ suc n
  pub state_is : state ≡ state_of m shape tables round
  pub reached : Reaches m shape tables round

-- what the round leaves
pub record Leaves (m : Meaning) (shape : Shape) (tables : List (List Record)) (round : ℕ) (state : List Record) (parts : List (List Record)) (left : List Record) : Type 0 where
  pub parts_are : parts ≡ parts_from m shape tables round state (length shape.steps)
  pub left_is : left ≡ together parts

-- whether an output that is so far from that of the round before is near it
abbrev pub Judged : Shape → ℕ → ℕ → Bool → Type 0
Judged shape round far near = MatchBool near ((2 ≤ round) × (far < shape.threshold)) (2 ≤ round → shape.threshold ≤ far)

by_word : (m : Meaning) (shape : Shape) (tables : List (List Record)) (round far : ℕ) (near exact : Bool) → far ≡ round_distance m shape tables round → shape.exact ≡ exact → Judged shape round far near → (near ≡ false → round ≡ shape.rounds) → EndsBy m shape tables round (end_by near exact)
by_word m shape tables round far true true f e h last = (e, h.0, omega (arith, h.1))
by_word m shape tables round far true false f e h last = (e, h.0, omega (arith, h.1))
by_word m shape tables round far false exact f e h last = (last refl, λ p. omega (arith, h p))

module _ {m : Meaning} {shape : Shape} {tables : List (List Record)} where
  pub first_begins : (state : List Record) → 1 ≤ shape.rounds → state ≡ table_at tables shape.start → Begins m shape tables 1 state
  first_begins state h e = record { n = 0; round_is = refl; state_is = e ∙ sym (append-nil (table_at tables shape.start)); reached = first_reached h }

  last_is : {round : ℕ} {state : List Record} {parts : List (List Record)} {left : List Record} → (b : Begins m shape tables round state) → Leaves m shape tables round state parts left → parts ≡ last_out m shape tables round
  last_is {round} {state} b l =
      let at : (i : ℕ) → round ≡ i → parts_from m shape tables i (state_of m shape tables i) (length shape.steps) ≡ parts_from m shape tables round state (length shape.steps) =
      λ i e. sym (ap (λ k. parts_from m shape tables k state (length shape.steps)) e ∙ ap (λ s. parts_from m shape tables i s (length shape.steps)) (b.state_is ∙ ap (state_of m shape tables) e))
      in
      l.parts_are ∙ sym (at (suc b.n) b.round_is) ∙ ap (last_out m shape tables) (sym b.round_is)

  next_state : {round : ℕ} {state : List Record} {parts : List (List Record)} {left : List Record} → (b : Begins m shape tables round state) → Leaves m shape tables round state parts left → left ≡ together (last_out m shape tables round)
  next_state b l = l.left_is ∙ ap together (last_is b l)

  far_is : {round : ℕ} {state : List Record} {parts : List (List Record)} {left : List Record} → (b : Begins m shape tables round state) → Leaves m shape tables round state parts left → distance m shape state left ≡ round_distance m shape tables round
  far_is {round} {state} {parts} {left} b l = ap (λ s. distance m shape s left) b.state_is ∙ ap (distance m shape (state_of m shape tables round)) (next_state b l)

  pub next_begins : {round : ℕ} {state : List Record} {parts : List (List Record)} {left : List Record} → Begins m shape tables round state → Leaves m shape tables round state parts left → Judged shape round (distance m shape state left) false → round ≢ shape.rounds → Begins m shape tables (round + 1) left
  next_begins {round} {state} {parts} {left} b l far more =
      let e = b.round_is in
      let w = b.reached.within in
      let f = far_is b l in
      let next : round + 1 ≡ suc round = omega arith in
      record {
        n = round;
        round_is = next;
        state_is = next_state b l ∙ ap (state_of m shape tables) (sym next);
        reached = next_reached round b.reached (λ o. omega (arith, far o)) (omega (arith, more));
      }

  pub chain_ends : {round : ℕ} {state : List Record} {parts : List (List Record)} {left : List Record} → (near : Bool) (chain : PlainResult) → Begins m shape tables round state → Leaves m shape tables round state parts left → Judged shape round (distance m shape state left) near → (near ≡ false → round ≡ shape.rounds) → chain.parts ≡ parts → chain.rounds ≡ round → chain.end ≡ end_by near shape.exact → IsPlainResult m shape tables chain
  chain_ends {round} {state} {parts} {left} near chain b l h last p r e =
      let ends : Ends m shape tables round (end_by near shape.exact) = record { reached = b.reached; by = by_word m shape tables round (distance m shape state left) near shape.exact (far_is b l) refl h last } in
      record {
        ends = subst (λ i. Ends m shape tables i chain.end) (sym r) (subst (λ w. Ends m shape tables round w) (sym e) ends);
        parts = p ∙ last_is b l ∙ ap (last_out m shape tables) (sym r);
      }
