-- From what `check` came to and said, the causes of each status; with those of the other commands, all of them.
use Rattle.std.proofs.Common.{◌≡◌, ◌≢◌, ℕ, ◌⊎◌, List, IsSome, Result, Ok, Err, refl, sym, ap, subst, ◌∙◌, inl, inr, arith}
use Rattle.hal_outside.specs.declared.disks.Disks.{Ghosts as Disks}
use Rattle.hal_outside.specs.declared.files.Files.{Ghosts as Files}
use Rattle.hal_outside.specs.declared.sink.Sink.{Ghosts as Sink}
use Rattle.hal_outside.specs.declared.faults.FileFault.TheVariants as file
use Rattle.hal_outside.specs.Told.{FileMap}
use Rattle.hal_outside.specs.Calls.{AbsentsRose, Changes, FaultsRose, Gains, Tells, WritesFailed}
use Rattle.plain_job.specs.declared.ending.End.{End}
use Rattle.haloop_run.specs.declared.fault.InputFault.{InputFault}
use Rattle.haloop_run.specs.declared.fault.InputFault.TheVariants.{Absent, BadProgram, BadSchedule, NotBuilt, BadTable}
use Rattle.haloop_run.specs.declared.fault.CommandFault.{CommandFault}
use Rattle.haloop_run.specs.declared.fault.CommandFault.TheVariants.{Refused, Stopped, Failed}
use Rattle.haloop_run.specs.Words.{Asked, AskFor, AskToCheck, IsUsage}
use Rattle.haloop_run.specs.Inputs.{ComesTo, Outcome, ProgramComesTo, not_built}
use Rattle.haloop_run.specs.Lines.{device_line, memory_line, not_built_line, outcome_line, status_of, usage_line}
use Rattle.haloop_run.specs.Outputs.{Leaves}
use Rattle.haloop_run.specs.Statuses.{Answers, AnswersTo, AreTrue, BeganRun, DisksFailed, GainsDue, InputIs, IsCheckStatus, IsChecked, IsDone, IsDue, IsMissed, IsRefusal, IsStatus, IsTaskFailed, LeavesSome, TellsEnd, of_check, of_device, of_input, of_memory}
use Rattle.haloop_run.specs.steps.Checks.{CheckCameTo, Checked, CheckedOr, check_line, check_status}
use Rattle.haloop_run.specs.steps.Commands.{Said}
use Rattle.haloop_run.specs.steps.Inputs.{outcome_of}
use Rattle.haloop_run.proofs.TopLaws.{Came, IsSaid, absent_at, asked_once, command_status, due_part, input_status, is_status, refusal_said, rose, said_part, said_status, said_whole, sink_failed, with_due}
use Rattle.haloop_run.proofs.TopLaws as law
use Rattle.haloop_run.proofs.WordLaws.{asked_apart, checked_once}

module _ {F D O : Type 0} (g : Files F) (d : Disks D) (h : Sink O) (words : List (List ℕ)) (old new : F) (held holds : D) (before after : O) (result : ℕ) where
  abbrev Gained : List ℕ → Type 0
  Gained line = Gains h before line after

  abbrev Due : List ℕ → Type 0
  Due line = IsDue g d words old new held holds line

  abbrev CallsFailed : Type 0
  CallsFailed = FaultsRose g old new ⊎ DisksFailed d held holds

  -- ---- check

  module _ (c : Checked g h words old new before after result) (same : holds ≡ held) where
    abbrev CameSo : Result (List ℕ) CommandFault → Type 0
    CameSo done = CheckCameTo g c.name old new done

    status_at : (done : Result (List ℕ) CommandFault) → IsStatus (check_status done)
    status_at (Ok text) = inl refl
    status_at (Err fault) = command_status (Err fault)

    check_is_status : IsStatus result
    check_is_status = is_status h before after result (check_status c.done) (check_line c.done) (status_at c.done) c.said

    sort_at : (done : Result (List ℕ) CommandFault) → CameSo done → IsCheckStatus (check_status done)
    sort_at (Ok text) s = inl refl
    sort_at (Err (Refused (Absent name))) s = inr (inr (inr (inr refl)))
    sort_at (Err (Refused (BadProgram line what))) s = inr (inl refl)
    sort_at (Err (Refused (BadSchedule line what))) s = absurd s.1
    sort_at (Err (Refused NotBuilt)) s = absurd s.1
    sort_at (Err (Refused (BadTable name what))) s = absurd s.1
    sort_at (Err (Stopped fault)) s = absurd s.1
    sort_at (Err (Failed (file.Device x))) s = inr (inr (inl refl))
    sort_at (Err (Failed file.Memory)) s = inr (inr (inr (inl refl)))

    sort_said : (n : ℕ) (line : List ℕ) → IsCheckStatus n → Said h n line before after result → IsCheckStatus result
    sort_said n line i (inl s) = subst IsCheckStatus (sym s.0) i
    sort_said n line i (inr (inl s)) = inr (inr (inl s.0))
    sort_said n line i (inr (inr s)) = inr (inr (inr (inl s.0)))

    check_sort : IsCheckStatus result
    check_sort = sort_said (check_status c.done) (check_line c.done) (sort_at c.done c.came) c.said

    -- what was said whole
    whole : IsSaid result → (check_status c.done ≡ result) × Gained (check_line c.done)
    whole s = said_whole h before after result (check_status c.done) (check_line c.done) c.said s.0 s.1

    abbrev Verdicts : List ℕ → Type 0
    Verdicts name = (line : List ℕ) × IsChecked g name old line × Gained line

    verdicts_at : (done : Result (List ℕ) CommandFault) → CameSo done → (check_status done ≡ result) × Gained (check_line done) → result ≡ 0 → Verdicts c.name
    verdicts_at (Ok text) s w r = (text, s.0, w.1)
    verdicts_at (Err (Refused fault)) s w r = absurd (omega (arith, (input_status fault).0, w.0, r))
    verdicts_at (Err (Stopped fault)) s w r = absurd s.0
    verdicts_at (Err (Failed (file.Device x))) s w r = absurd (omega (arith, w.0, r))
    verdicts_at (Err (Failed file.Memory)) s w r = absurd (omega (arith, w.0, r))

    check_verdicts : result ≡ 0 → Verdicts c.name
    check_verdicts r = verdicts_at c.done c.came (whole (omega arith, omega arith)) r

    -- a status that is neither 0 nor of a failure is that of an input that is refused
    abbrev IsInput : Type 0
    IsInput = (fault : InputFault) × CameSo (Err (Refused fault)) × (status_of (outcome_of fault) ≡ result) × Gained (outcome_line (outcome_of fault))

    input_at : (done : Result (List ℕ) CommandFault) → CameSo done → (check_status done ≡ result) × Gained (check_line done) → result ≢ 0 → IsSaid result → IsInput
    input_at (Ok text) s w n i = absurd (n (sym w.0))
    input_at (Err (Refused fault)) s w n i = (fault, s, w.0, w.1)
    input_at (Err (Stopped fault)) s w n i = absurd s.0
    input_at (Err (Failed (file.Device x))) s w n i = absurd (i.0 (sym w.0))
    input_at (Err (Failed file.Memory)) s w n i = absurd (i.1 (sym w.0))

    of_input_fault : result ≢ 0 → IsSaid result → IsInput
    of_input_fault n i = input_at c.done c.came (whole i) n i

    input_of : (fault : InputFault) → CameSo (Err (Refused fault)) → InputIs g words old (outcome_of fault)
    input_of fault s = inr (c.name, c.ask, λ told t. (s.0.0 told t).comes)

    no_zero : IsRefusal result → result ≢ 0
    no_zero (inl e) z = omega (arith, e, z)
    no_zero (inr (inl e)) z = omega (arith, e, z)
    no_zero (inr (inr (inl e))) z = omega (arith, e, z)
    no_zero (inr (inr (inr e))) z = omega (arith, e, z)

    check_refused : IsRefusal result → (it : Outcome) × (status_of it ≡ result) × InputIs g words old it × Gained (outcome_line it)
    check_refused r = let f = of_input_fault (no_zero r) (refusal_said result r) in (outcome_of f.0, f.2, input_of f.0 f.1, f.3)

    check_absents : result ≡ 11 → AbsentsRose g old new
    check_absents r = let f = of_input_fault (omega arith) (omega arith, omega arith) in absent_at g d h words old new held holds before after result f.0 (f.2 ∙ r) f.1.0.1

    -- no other status comes
    no_other : (n : ℕ) → IsCheckStatus n → (n ≢ 1) × (n ≢ 6) × (n ≢ 12)
    no_other n (inl e) = (omega arith, omega arith, omega arith)
    no_other n (inr (inl e)) = (omega arith, omega arith, omega arith)
    no_other n (inr (inr (inl e))) = (omega arith, omega arith, omega arith)
    no_other n (inr (inr (inr (inl e)))) = (omega arith, omega arith, omega arith)
    no_other n (inr (inr (inr (inr e)))) = (omega arith, omega arith, omega arith)

    check_is_not : (result ≢ 1) × (result ≢ 6) × (result ≢ 12)
    check_is_not = no_other result check_sort

    due_at : (done : Result (List ℕ) CommandFault) → CameSo done → Due (check_line done)
    due_at (Ok text) s = of_check c.name c.ask s.0
    due_at (Err (Refused fault)) s = of_input (outcome_of fault) (input_of fault s) refl
    due_at (Err (Stopped fault)) s = absurd s.0
    due_at (Err (Failed (file.Device x))) s = of_device (inl s.0) refl
    due_at (Err (Failed file.Memory)) s = of_memory refl

    check_due : GainsDue g d h words old new held holds before after
    check_due = due_part g d h words old new held holds before after result (check_line c.done) (due_at c.done c.came) (said_part h before after result (check_status c.done) (check_line c.done) c.said)

    device_at : (done : Result (List ℕ) CommandFault) → CameSo done → Said h (check_status done) (check_line done) before after result → result ≡ 8 → (CallsFailed × Gained device_line) ⊎ WritesFailed h before after
    device_at (Ok text) s said e = inr (sink_failed h before after result 0 text said e (omega arith))
    device_at (Err (Refused fault)) s said e = inr (sink_failed h before after result (status_of (outcome_of fault)) (outcome_line (outcome_of fault)) said e (input_status fault).2.0)
    device_at (Err (Stopped fault)) s said e = absurd s.0
    device_at (Err (Failed (file.Device x))) s (inl said) e = inl (inl s.0, said.1)
    device_at (Err (Failed (file.Device x))) s (inr (inl said)) e = inr said.1
    device_at (Err (Failed (file.Device x))) s (inr (inr said)) e = absurd (omega (arith, said.0, e))
    device_at (Err (Failed file.Memory)) s said e = inr (sink_failed h before after result 10 memory_line said e (omega arith))

    check_device : result ≡ 8 → (CallsFailed × Gained device_line) ⊎ WritesFailed h before after
    check_device e = device_at c.done c.came c.said e

    failed : (m n : ℕ) (line : List ℕ) → Said h n line before after result → (n ≡ 8) ⊎ (n ≡ 10) → Answers m result
    failed m n line (inl s) (inl f) = inr (inl (s.0 ∙ f))
    failed m n line (inl s) (inr f) = inr (inr (s.0 ∙ f))
    failed m n line (inr (inl s)) f = inr (inl s.0)
    failed m n line (inr (inr s)) f = inr (inr s.0)

    as_status : (m n : ℕ) (line : List ℕ) → n ≡ m → Said h m line before after result → Answers n result
    as_status m n line e s = subst (λ (k : ℕ). Answers k result) (sym e) (said_status h before after result m line s)

    answers_at : (done : Result (List ℕ) CommandFault) → CameSo done → Said h (check_status done) (check_line done) before after result → (told : FileMap) → Tells g old told → (it : Outcome) → ProgramComesTo told c.name it → Answers (status_of it) result
    answers_at (Ok text) s said told t it i = as_status 0 (status_of it) text (s.1 told t it i) said
    answers_at (Err (Refused fault)) s said told t it i = as_status (status_of (outcome_of fault)) (status_of it) (outcome_line (outcome_of fault)) ((s.0.0 told t).only it i) said
    answers_at (Err (Stopped fault)) s said told t it i = absurd s.0
    answers_at (Err (Failed (file.Device x))) s said told t it i = failed (status_of it) 8 device_line said (inl refl)
    answers_at (Err (Failed file.Memory)) s said told t it i = failed (status_of it) 10 memory_line said (inr refl)

    check_answers : (told : FileMap) → Tells g old told → (it : Outcome) → ProgramComesTo told c.name it → Answers (status_of it) result
    check_answers told t it i = answers_at c.done c.came c.said told t it i

  -- ---- all commands

  abbrev CameAny : Type 0
  CameAny = CheckedOr g d h words old new held holds before after result (Came g d h words old new held holds before after result)

  pub status : CameAny → IsStatus result
  status (inl c) = check_is_status c.0 c.1
  status (inr c) = law.status g d h words old new held holds before after result c

  pub headline : CameAny → (asked : Asked) → AskFor words asked → result ≡ 0 → AreTrue d held → (rounds : ℕ) × (end : End) × Changes g (Leaves asked rounds end) old new × (line : List ℕ) × TellsEnd asked.schedule rounds end line × Gained line
  headline (inl c) asked a e t = absurd (asked_apart words asked c.0.name a c.0.ask)
  headline (inr c) asked a e t =
      let f = law.headline g d h words old new held holds before after result c e t in
      subst (λ (x : Asked). (rounds : ℕ) × (end : End) × Changes g (Leaves x rounds end) old new × (line : List ℕ) × TellsEnd x.schedule rounds end line × Gained line) (asked_once words f.0 asked f.1 a) (f.2, f.3, f.4, f.5, f.6, f.7)

  pub done : CameAny → (asked : Asked) → AskFor words asked → result ≡ 0 → (line : List ℕ) × IsDone g d asked old new held holds line × Gained line
  done (inl c) asked a e = absurd (asked_apart words asked c.0.name a c.0.ask)
  done (inr c) asked a e =
      let f = law.done g d h words old new held holds before after result c e in
      subst (λ (x : Asked). (line : List ℕ) × IsDone g d x old new held holds line × Gained line) (asked_once words f.0 asked f.1 a) (f.2, f.3, f.4)

  -- other commands are not asked for where verdicts are
  not_other : Came g d h words old new held holds before after result → (program : List ℕ) → AskToCheck words program → ⊥
  not_other (inl p) program a = asked_apart words p.asked program p.ask_for a
  not_other (inr n) program a = n.0.1 program a

  pub checked : CameAny → (program : List ℕ) → AskToCheck words program → result ≡ 0 → (line : List ℕ) × IsChecked g program old line × Gained line
  checked (inl c) program a e = subst (λ (name : List ℕ). (line : List ℕ) × IsChecked g name old line × Gained line) (checked_once words c.0.name program c.0.ask a) (check_verdicts c.0 c.1 e)
  checked (inr c) program a e = absurd (not_other c program a)

  pub check_status_is : CameAny → (program : List ℕ) → AskToCheck words program → IsCheckStatus result
  check_status_is (inl c) program a = check_sort c.0 c.1
  check_status_is (inr c) program a = absurd (not_other c program a)

  pub check_keeps : CameAny → (program : List ℕ) → AskToCheck words program → (g.told new ≡ g.told old) × (holds ≡ held)
  check_keeps (inl c) program a = (c.0.kept, c.1)
  check_keeps (inr c) program a = absurd (not_other c program a)

  pub check_answered : CameAny → (told : FileMap) → Tells g old told → (program : List ℕ) (it : Outcome) → AskToCheck words program → ProgramComesTo told program it → Answers (status_of it) result
  check_answered (inl c) told t program it a i = check_answers c.0 c.1 told t it (subst (λ (name : List ℕ). ProgramComesTo told name it) (checked_once words program c.0.name a c.0.ask) i)
  check_answered (inr c) told t program it a i = absurd (not_other c program a)

  pub usage : CameAny → result ≡ 1 → IsUsage words × Gained usage_line
  usage (inl c) r = absurd ((check_is_not c.0 c.1).0 r)
  usage (inr c) r = law.usage g d h words old new held holds before after result c r

  pub refused : CameAny → IsRefusal result → (it : Outcome) × (status_of it ≡ result) × InputIs g words old it × Gained (outcome_line it)
  refused (inl c) r = check_refused c.0 c.1 r
  refused (inr c) r = law.refused g d h words old new held holds before after result c r

  pub absents_rose : CameAny → result ≡ 11 → AbsentsRose g old new
  absents_rose (inl c) r = check_absents c.0 c.1 r
  absents_rose (inr c) r = law.absents_rose g d h words old new held holds before after result c r

  pub no_calls : CameAny → (result ≡ 1) ⊎ IsRefusal result → holds ≡ held
  no_calls (inl c) r = c.1
  no_calls (inr c) r = law.no_calls g d h words old new held holds before after result c r

  pub task_failed : CameAny → result ≡ 6 → (asked : Asked) × AskFor words asked × (line : List ℕ) × IsTaskFailed g d asked old held holds line × Gained line
  task_failed (inl c) r = absurd ((check_is_not c.0 c.1).1 r)
  task_failed (inr c) r = law.task_failed g d h words old new held holds before after result c r

  pub not_built_yet : CameAny → result ≡ 12 → ((holds ≡ held) × InputIs g words old not_built × Gained not_built_line) ⊎ ((asked : Asked) × AskFor words asked × (line : List ℕ) × IsMissed g d asked old held holds line × Gained line)
  not_built_yet (inl c) r = absurd ((check_is_not c.0 c.1).2 r)
  not_built_yet (inr c) r = law.not_built_yet g d h words old new held holds before after result c r

  pub kept : CameAny → (result ≡ 1) ⊎ (result ≡ 6) ⊎ (result ≡ 12) ⊎ IsRefusal result → g.told new ≡ g.told old
  kept (inl c) r = c.0.kept
  kept (inr c) r = law.kept g d h words old new held holds before after result c r

  pub device : CameAny → result ≡ 8 → FaultsRose g old new ⊎ DisksFailed d held holds ⊎ WritesFailed h before after
  device (inl c) r = rose g d h words old new held holds before after result (check_device c.0 c.1 r)
  device (inr c) r = law.device g d h words old new held holds before after result c r

  pub device_said : CameAny → result ≡ 8 → (CallsFailed × Gained device_line) ⊎ (WritesFailed h before after × GainsDue g d h words old new held holds before after)
  device_said (inl c) r = with_due g d h words old new held holds before after result (check_due c.0 c.1) (check_device c.0 c.1 r)
  device_said (inr c) r = law.device_said g d h words old new held holds before after result c r

  pub said_due : CameAny → GainsDue g d h words old new held holds before after
  said_due (inl c) = check_due c.0 c.1
  said_due (inr c) = law.said_due g d h words old new held holds before after result c

  pub left : CameAny → (g.told new ≡ g.told old) ⊎ ((asked : Asked) × AskFor words asked × LeavesSome g d asked old new held)
  left (inl c) = inl c.0.kept
  left (inr c) = law.left g d h words old new held holds before after result c

  pub began : CameAny → (holds ≡ held) ⊎ ((asked : Asked) × AskFor words asked × BeganRun g d asked old held holds)
  began (inl c) = inl c.1
  began (inr c) = law.began g d h words old new held holds before after result c

  pub unmissed : CameAny → d.sound held → IsSome (d.told held) → d.misses holds ≡ d.misses held
  unmissed (inl c) s t = ap d.misses c.1
  unmissed (inr c) s t = law.unmissed g d h words old new held holds before after result c s t

  pub usage_answered : CameAny → IsUsage words → Answers 1 result
  usage_answered (inl c) u = absurd (u.1 c.0.name c.0.ask)
  usage_answered (inr c) u = law.usage_answered g d h words old new held holds before after result c u

  pub answered : CameAny → (told : FileMap) → Tells g old told → (asked : Asked) (it : Outcome) → AskFor words asked → ComesTo told asked it → AnswersTo it result
  answered (inl c) told t asked it a i = absurd (asked_apart words asked c.0.name a c.0.ask)
  answered (inr c) told t asked it a i = law.answered g d h words old new held holds before after result c told t asked it a i
