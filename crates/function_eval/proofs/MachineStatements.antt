-- What statements do, by the lists of those that they hold.
use Rattle.std.proofs.Common.{◌≡◌, ◌∙◌, ◌++◌, ◌==◌, ℕ, ℤ, Bool, true, false, List, [], ◌∷◌, Option, None, Some, Result, ap, ap₂, cond, length, option_map, refl, slice_get, subst, sym}
use Rattle.hal_base.specs.declared.value.Value.{Value}
use Rattle.operations.specs.Applied.{is_true}
use Rattle.function_eval.specs.declared.machine.Stop.{Stop}
use Rattle.function_eval.specs.declared.running.Running.{Running}
use Rattle.function_eval.specs.declared.resolved.ResolvedExpr.{ResolvedExpr}
use Rattle.function_eval.specs.declared.resolved.ResolvedStatement.{Row_of-ResolvedStatement, ResolvedStatement, end_of-ResolvedStatement, items-the_row-ResolvedStatement, items_hidden-the_row-ResolvedStatement-0, more_of-ResolvedStatement}
use Rattle.function_eval.specs.declared.resolved.ResolvedStatement.TheBlock.{hidden-the_row-ResolvedStatement-0}
use Rattle.function_eval.specs.declared.resolved.ResolvedStatement.TheVariants as a_resolved_statement
use Rattle.function_eval.specs.steps.Machine.{Ran, slot_block, slot_for, slot_turns}
use Rattle.function_meaning.specs.Optional.{◌>>=◌}
use Rattle.function_eval.specs.steps.Slots.{slot_after, slot_all_after, slot_leave, slot_number, slot_row_after, slot_turn, with_slots}
use Rattle.function_meaning.specs.Statements.{turns}

-- goes on in the same way
on_same : {A B : Type 0} (found : Option A) (f g : A → Option B) → ((a : A) → f a ≡ g a) → found >>= f ≡ found >>= g
on_same None f g same = refl
on_same (Some a) f g same = same a

-- by the same turns
turns_same : {S : Type 0} (f g : List Value → S → Option S) → ((fields : List Value) (s : S) → f fields s ≡ g fields s) → (group : List (List Value)) (s : S) → turns f group s ≡ turns g group s
turns_same f g same [] s = refl
turns_same f g same (fields ∷ group) s = ap (λ done. done >>= turns f group) (same fields s) ∙ on_same (g fields s) (turns f group) (turns g group) (turns_same f g same group)

-- the same thing
some_same : {A : Type 0} (a b : A) → Some a ≡ Some b → a ≡ b
some_same a b e = cc

-- one of two by the truth of a number
of_test : (found : Option ℤ) (b : Bool) (one other : Option Running) → option_map is_true found ≡ Some b → found >>= (λ n. cond (is_true n) one other) ≡ cond b one other
of_test None b one other e = absurd cc
of_test (Some n) b one other e = ap (λ b. cond b one other) (some_same (is_true n) b e)

module _ (round : Option ℕ) (groups : List (List (List Value))) where
  -- the statements of a row do what those of its list do
  statements_of_row : (n : _) (row : Row_of-ResolvedStatement n) (s : Running) → slot_row_after round groups row s ≡ slot_all_after round groups (items-the_row-ResolvedStatement n row) s
  statements_of_row n end_of-ResolvedStatement s = refl
  statements_of_row n (more_of-ResolvedStatement statement statements) s = on_same (slot_after round groups statement s) (slot_row_after round groups statements) (slot_all_after round groups (items-the_row-ResolvedStatement _ statements)) (statements_of_row _ statements)

  -- so do those of a block
  block_is : (body : List ResolvedStatement) (s : Running) → slot_row_after round groups (hidden-the_row-ResolvedStatement-0 body) s ≡ slot_all_after round groups body s
  block_is body s = statements_of_row _ (hidden-the_row-ResolvedStatement-0 body) s ∙ ap (λ body. slot_all_after round groups body s) (items_hidden-the_row-ResolvedStatement-0 body)

  -- what is left behind one of two blocks
  left_behind : (b : Bool) (chosen other : Option Running) (s : Running) → cond b chosen other >>= (λ done. Some (slot_leave s done)) ≡ cond b (option_map (slot_leave s) chosen) (option_map (slot_leave s) other)
  left_behind true None other s = refl
  left_behind true (Some done) other s = refl
  left_behind false chosen None s = refl
  left_behind false chosen (Some done) s = refl

  -- an `if` by the lists of its blocks
  abbrev slot_if : ResolvedExpr → List ResolvedStatement → List ResolvedStatement → Running → Option Running
  slot_if test chosen other s = slot_number round s.slots test >>= λ n. cond (is_true n) (slot_block round groups chosen s) (slot_block round groups other s)

  -- an `if` of these blocks
  if_is : (test : ResolvedExpr) (chosen other : List ResolvedStatement) (s : Running) → slot_after round groups (a_resolved_statement.If test chosen other) s ≡ slot_if test chosen other s
  if_is test chosen other s = on_same (slot_number round s.slots test) _ (λ n. cond (is_true n) (slot_block round groups chosen s) (slot_block round groups other s))
      (λ n. left_behind (is_true n) _ _ s ∙ ap₂ (λ chosen other. cond (is_true n) (option_map (slot_leave s) chosen) (option_map (slot_leave s) other)) (block_is chosen s) (block_is other s))

  -- a turn of a loop with this body
  turn_is : (count : ℕ) (body : List ResolvedStatement) (fields : List Value) (s : Running) → slot_turn (slot_row_after round groups (hidden-the_row-ResolvedStatement-0 body)) count fields s ≡ slot_turn (slot_all_after round groups body) count fields s
  turn_is count body fields s = ap (λ done. cond (length fields == count) (option_map (slot_leave s) done) None) (block_is body (with_slots (s.slots ++ fields) s))

  -- a loop with this body
  for_is : (stream count : ℕ) (body : List ResolvedStatement) (s : Running) → slot_after round groups (a_resolved_statement.For stream count body) s ≡ slot_for round groups stream count body s
  for_is stream count body s =
      let row = hidden-the_row-ResolvedStatement-0 body in
      on_same (slice_get groups stream) (λ group. turns (slot_turn (slot_row_after round groups row) count) group s) (λ group. slot_turns round groups body count group s)
      (λ group. turns_same (slot_turn (slot_row_after round groups row) count) (slot_turn (slot_all_after round groups body) count) (turn_is count body) group s)

  -- what an `if` came to, by the block that was chosen
  pub if_ran : (statement : ResolvedStatement) (test : ResolvedExpr) (chosen other slice : List ResolvedStatement) (slots : List Value) (old new : Running) (result : Result (Unit {0}) Stop) (b : Bool)
      → statement ≡ a_resolved_statement.If test chosen other → slots ≡ old.slots → option_map is_true (slot_number round slots test) ≡ Some b → slice ≡ cond b chosen other → Ran (slot_block round groups slice old) result new → Ran (slot_after round groups statement old) result new
  if_ran statement test chosen other slice slots old new result b is there truth same ran =
      subst (λ found. Ran found result new)
      (ap (λ body. slot_block round groups body old) same ∙ of_chosen b ∙ sym (
      ap (λ statement. slot_after round groups statement old) is
      ∙ if_is test chosen other old
      ∙ of_test (slot_number round old.slots test) b (slot_block round groups chosen old) (slot_block round groups other old) (ap (λ slots. option_map is_true (slot_number round slots test)) (sym there) ∙ truth)))
      ran
    where
      of_chosen : (b : Bool) → slot_block round groups (cond b chosen other) old ≡ cond b (slot_block round groups chosen old) (slot_block round groups other old)
      of_chosen true = refl
      of_chosen false = refl

  -- what a loop came to, by the slice of its body
  pub for_ran : (statement : ResolvedStatement) (stream count : ℕ) (body slice : List ResolvedStatement) (old new : Running) (result : Result (Unit {0}) Stop)
      → statement ≡ a_resolved_statement.For stream count body → slice ≡ body → Ran (slot_for round groups stream count slice old) result new → Ran (slot_after round groups statement old) result new
  for_ran statement stream count body slice old new result is same ran =
      subst (λ found. Ran found result new) (ap (λ body. slot_for round groups stream count body old) same ∙ sym (ap (λ statement. slot_after round groups statement old) is ∙ for_is stream count body old)) ran
