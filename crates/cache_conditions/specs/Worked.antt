-- What the definitions give for worked programs: each word in each place, and which of two that hold is said.
use Rattle.std.specs.Prelude.{◌≡◌, ℕ, List, [], ◌∷◌, Option, None, Some, Ok, Err, codes}
use Rattle.program_sketch.specs.declared.sketch.Sketch.{Sketch}
use Rattle.loop_program.specs.Found.{Found}
use Rattle.loop_program.specs.Programs.{accepted}
use Rattle.loop_program.specs.Types.{AreRight, as_typed}
use Rattle.loop_program.specs.Whole.{Whole}
use Rattle.cache_conditions.specs.Conditions.{verdicts}
use Rattle.cache_conditions.specs.Programs.{added_once, all_caches, count, counted, dated, hops, ident, input, input_once, late, mapper_alone, no_cache, one_step, ranks, stamped, turning, two_steps}
use Rattle.cache_conditions.specs.Texts.{check_text}

-- the text of the verdicts on a program, if one is accepted
abbrev pub text_of : Found Whole → Option (List ℕ)
text_of (Ok program) = Some (check_text (verdicts program))
text_of (Err fault) = None

-- the program that is written so is accepted, and this is said of it
pub record Says (sketch : Sketch) (text : List ℕ) : Type 0 where
  pub right : AreRight sketch
  pub said : text_of (accepted (as_typed sketch)) ≡ Some text

-- worked programs
pub record WorkedPrograms : Type 0 where
  pub hops : Says hops (codes "step 1 source 1 not-invariant -\nstep 1 source 2 reducer-input -\nstep 2 source 1 not-invariant -\nstep 2 source 2 reducer-input -\nstate reducer-output\n")
  pub counted : Says counted (codes "step 1 source 1 not-invariant -\nstep 1 source 2 reducer-input -\nstate emits-other-key\n")
  pub stamped : Says stamped (codes "step 1 source 1 not-invariant -\nstep 1 source 2 uses-round mapper-input\nstate not-asked\n")
  pub added_once : Says added_once (codes "step 1 source 1 not-invariant -\nstep 1 source 2 one-round-only -\nstate not-asked\n")
  pub ranks : Says ranks (codes "step 1 source 1 not-invariant -\nstep 1 source 2 reducer-input -\nstep 2 source 1 not-invariant -\nstate reducer-output\n")

-- the words of further programs, where the first step reads the state and a table
pub record WorkedWords : Type 0 where
  pub parts_change : Says (one_step all_caches (turning ∷ []) (input (codes "x") (codes "same")) (codes "least") (Some (ident (codes "turning")))) (codes "step 1 source 1 not-invariant -\nstep 1 source 2 partition-uses-round mapper-input\nstate partition-uses-round\n")
  pub only_mapper : Says (one_step mapper_alone [] (input (codes "x") (codes "same")) (codes "every") None) (codes "step 1 source 1 not-invariant -\nstep 1 source 2 not-asked mapper-input\nstate not-asked\n")
  pub all_asked : Says (one_step all_caches [] (input (codes "x") (codes "same")) (codes "every") None) (codes "step 1 source 1 not-invariant -\nstep 1 source 2 reducer-input -\nstate reducer-output\n")
  pub none_asked : Says (one_step no_cache [] (input (codes "x") (codes "same")) (codes "every") None) (codes "step 1 source 1 not-invariant -\nstep 1 source 2 not-asked -\nstate not-asked\n")
  pub hop_at_the_end : Says (one_step all_caches [] (input (codes "x") (codes "same")) (codes "hop") None) (codes "step 1 source 1 not-invariant -\nstep 1 source 2 reducer-input -\nstate emits-other-key\n")
  pub round_in_the_reduce : Says (one_step all_caches (dated ∷ []) (input (codes "x") (codes "same")) (codes "dated") None) (codes "step 1 source 1 not-invariant -\nstep 1 source 2 reducer-input -\nstate reducer-output\n")
  pub first_parts_change : Says (two_steps (Some (ident (codes "turning"))) None) (codes "step 1 source 1 not-invariant -\nstep 1 source 2 partition-uses-round -\nstep 2 source 1 not-invariant -\nstate reducer-output\n")
  pub last_parts_change : Says (two_steps None (Some (ident (codes "turning")))) (codes "step 1 source 1 not-invariant -\nstep 1 source 2 reducer-input -\nstep 2 source 1 not-invariant -\nstate partition-uses-round\n")

-- where two words hold, the first is said
pub record WorkedOrders : Type 0 where
  pub one_round_and_round : Says (one_step all_caches (late ∷ []) (input_once (codes "x") 1 (codes "late")) (codes "least") None) (codes "step 1 source 1 not-invariant -\nstep 1 source 2 one-round-only -\nstate reducer-output\n")
  pub map_and_partition : Says (one_step all_caches (late ∷ turning ∷ []) (input (codes "x") (codes "late")) (codes "least") (Some (ident (codes "turning")))) (codes "step 1 source 1 not-invariant -\nstep 1 source 2 uses-round mapper-input\nstate partition-uses-round\n")
  pub map_and_not_asked : Says (one_step no_cache (late ∷ []) (input (codes "x") (codes "late")) (codes "least") None) (codes "step 1 source 1 not-invariant -\nstep 1 source 2 uses-round -\nstate not-asked\n")
  pub partition_and_not_asked : Says (one_step no_cache (turning ∷ []) (input (codes "x") (codes "same")) (codes "least") (Some (ident (codes "turning")))) (codes "step 1 source 1 not-invariant -\nstep 1 source 2 partition-uses-round -\nstate partition-uses-round\n")
  pub key_and_partition : Says (one_step all_caches (turning ∷ []) (input (codes "x") (codes "same")) (codes "hop") (Some (ident (codes "turning")))) (codes "step 1 source 1 not-invariant -\nstep 1 source 2 partition-uses-round mapper-input\nstate emits-other-key\n")
  pub key_and_not_asked : Says (one_step no_cache (count ∷ []) (input (codes "x") (codes "same")) (codes "count") None) (codes "step 1 source 1 not-invariant -\nstep 1 source 2 not-asked -\nstate emits-other-key\n")
