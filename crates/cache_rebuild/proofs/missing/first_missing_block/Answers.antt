use Rattle.std.proofs.Common.{◌≡◌, [], None, Some, IfNone, Option, ℕ}
use Rattle.std.specs.Option.{option_map}
use Rattle.std.proofs.lemmas.Result.{IfOk-weaker}
use Rattle.run_model.specs.Wanted.{first_missing_block, least_name, missing_blocks}
use Rattle.cache_rebuild.specs.Goals.{block_at, plain_goal}
use Rattle.cache_rebuild.proofs.LeastBlocks.{least_none}
use Rattle.cache_rebuild.proofs.missing.first_missing_block.Goals as goal

pub returns-clause-none : goal.returns-clause-none
returns-clause-none c =
    let view = c.args.view.now in
    let goal = plain_goal c.args.goal.now in
    IfOk-weaker c.least_missing.result (λ block. option_map block_at block ≡ first_missing_block view goal) (λ block. IfNone block (missing_blocks view goal ≡ []))
    (λ block e. elim block as (λ (o : Option (ℕ × ℕ)). option_map block_at o ≡ least_name (missing_blocks view goal) → IfNone o (missing_blocks view goal ≡ [])) [
      | None ↦ λ h. least_none (missing_blocks view goal) h
      | Some place ↦ λ h. tt
    ] e) c.least_missing.ensures
