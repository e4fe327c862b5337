-- The rounds of the chain, one after another.
use Rattle.std.proofs.Common.{◌≡◌, ℕ, suc, ◌+◌, ◌<◌, ◌≤◌, List, None, Some, refl, sym, ap, ◌∙◌, subst, length, arith}
use Rattle.hal_base.specs.declared.record.Record.{Record}
use Rattle.hal_base.specs.declared.shape.Shape.{Shape}
use Rattle.hal_base.specs.Meaning.{Meaning}
use Rattle.plain_job.specs.declared.ending.End.{End}
use Rattle.plain_job.specs.declared.ending.End.TheVariants as end
use Rattle.plain_job.specs.declared.ending.PlainResult.{PlainResult}
use Rattle.plain_job.specs.Chain.{last_out, parts_from, together}
use Rattle.plain_job.specs.Distances.{distance}
use Rattle.plain_job.specs.Ends.{Ends, IsPlainResult, Reaches, round_distance}
use Rattle.plain_job.proofs.Reaching.{first_reached}
use Rattle.fixpoint_test.specs.Decisions.{Decides}
use Rattle.fixpoint_test.specs.Follows.{Follows}
use Rattle.fixpoint_test.specs.declared.decision.Next.{Next}
use Rattle.fixpoint_test.specs.declared.decision.Next.TheVariants.{Again, Fixpoint, Close, Limit}
use Rattle.fixpoint_test.proofs.Deciding.{decisions_tell}
use Rattle.memory_run.specs.steps.Rounds.{AreLeft}
use Rattle.memory_run.specs.steps.Sections.{end_of}

-- the chain came to this round, which left these parts, and this follows
pub record Came (m : Meaning) (shape : Shape) (tables : List (List Record)) (round : ℕ) (next : Next) (parts : List (List Record)) : Type 0 where
  pub left : AreLeft m shape tables round parts
  pub follows : Follows m shape tables round next

goes_on : (next : Next) → end_of next ≡ None → next ≡ Again
goes_on Again e = refl
goes_on Fixpoint e = cc
goes_on Close e = cc
goes_on Limit e = cc

module _ {m : Meaning} {shape : Shape} {tables : List (List Record)} where
  pub first_came : (next : Next) (parts : List (List Record)) → 1 ≤ shape.rounds → parts ≡ last_out m shape tables 1 → Decides 1 None shape.threshold shape.exact shape.rounds next → Came m shape tables 1 next parts
  first_came next parts l made d =
      record {
        left = record { within = (omega arith, l); parts_are = made };
        follows = decisions_tell m shape tables 1 None next (first_reached l) refl d;
      }

  -- where there is another round, the chain comes to it
  reaches : {round : ℕ} {next : Next} {parts : List (List Record)} → Came m shape tables round next parts → end_of next ≡ None → Reaches m shape tables (round + 1)
  reaches {round} {next} c more = subst (Follows m shape tables round) (goes_on next more) c.follows

  -- what the next round leaves
  pub next_left : {round : ℕ} {before : Next} {parts : List (List Record)} (left : List (List Record)) → Came m shape tables round before parts → end_of before ≡ None → left ≡ parts_from m shape tables (round + 1) (together parts) (length shape.steps) → AreLeft m shape tables (round + 1) left
  next_left {round} {before} {parts} left c more made =
      let next : round + 1 ≡ suc round = omega arith in
      record {
        within = (reaches c more).within;
        parts_are =
            made
            ∙ ap (λ i. parts_from m shape tables i (together parts) (length shape.steps)) next
            ∙ ap (λ rows. parts_from m shape tables (suc round) (together rows) (length shape.steps)) c.left.parts_are
            ∙ ap (last_out m shape tables) (sym next);
      }

  pub next_came : {round : ℕ} {before : Next} {parts : List (List Record)} (far : ℕ) (next : Next) (left : List (List Record)) → Came m shape tables round before parts → end_of before ≡ None → AreLeft m shape tables (round + 1) left → far ≡ distance m shape (together parts) (together left) → Decides (round + 1) (Some far) shape.threshold shape.exact shape.rounds next → Came m shape tables (round + 1) next left
  next_came {round} {before} {parts} far next left c more made e d =
      let r : round + 1 ≡ suc round = omega arith in
      let apart : far ≡ round_distance m shape tables (round + 1) =
      e
      ∙ ap (λ rows. distance m shape (together rows) (together left)) c.left.parts_are
      ∙ ap (λ rows. distance m shape (together (last_out m shape tables round)) (together rows)) (made.parts_are ∙ ap (last_out m shape tables) r)
      ∙ ap (round_distance m shape tables) (sym r)
      in
      let begun = c.left.within.0 in
      record { left = made; follows = decisions_tell m shape tables (round + 1) (Some far) next (reaches c more) (omega arith, apart) d }

  -- there is another round only below the limit
  pub below_the_limit : {round : ℕ} {next : Next} {parts : List (List Record)} → Came m shape tables round next parts → end_of next ≡ None → round < shape.rounds
  below_the_limit {round} c more = let w = (reaches c more).within in omega arith

  ends_by : (round : ℕ) (next : Next) (word : End) → end_of next ≡ Some word → Follows m shape tables round next → Ends m shape tables round word
  ends_by round Again word e f = let no : ⊥ = cc in absurd no
  ends_by round Fixpoint word e f = let is : end.Fixpoint ≡ word = cc in subst (Ends m shape tables round) is f
  ends_by round Close word e f = let is : end.Close ≡ word = cc in subst (Ends m shape tables round) is f
  ends_by round Limit word e f = let is : end.Limit ≡ word = cc in subst (Ends m shape tables round) is f

  pub chain_ends : {round : ℕ} {next : Next} {parts : List (List Record)} (word : End) (chain : PlainResult) → Came m shape tables round next parts → end_of next ≡ Some word → chain.parts ≡ parts → chain.rounds ≡ round → chain.end ≡ word → IsPlainResult m shape tables chain
  chain_ends {round} {next} word chain c e parts rounds is =
      record {
        ends = subst (λ i. Ends m shape tables i chain.end) (sym rounds) (subst (Ends m shape tables round) (sym is) (ends_by round next word e c.follows));
        parts = parts ∙ c.left.parts_are ∙ ap (last_out m shape tables) (sym rounds);
      }
