-- From what a call came to and said, the causes of each status.
use Rattle.std.proofs.Common.{◌≡◌, ◌≢◌, ℕ, ◌≤◌, ◌⊎◌, List, [], ◌∷◌, ◌++◌, Option, None, Some, IsSome, Result, Ok, Err, refl, sym, ap, subst, ◌∙◌, inl, inr, length, arith}
use Rattle.std.specs.Option.{option_map}
use Rattle.std.proofs.Math.Seq.{take-length}
use Rattle.hal_outside.specs.declared.disks.Disks.{Ghosts as Disks}
use Rattle.hal_outside.specs.declared.files.Files.{Ghosts as Files}
use Rattle.hal_outside.specs.declared.sink.Sink.{Ghosts as Sink}
use Rattle.hal_outside.specs.declared.faults.FileFault.TheVariants as file
use Rattle.hal_outside.specs.Told.{FileMap, AfterFailedAppend}
use Rattle.hal_outside.specs.Calls.{AbsentsRose, Changes, FaultsRose, Gains, OnTold, Tells, WritesFailed}
use Rattle.plain_job.specs.declared.ending.End.{End}
use Rattle.haloop_run.specs.declared.fault.InputFault.{InputFault}
use Rattle.haloop_run.specs.declared.fault.InputFault.TheVariants.{Absent, BadProgram, BadSchedule, NotBuilt, BadTable}
use Rattle.haloop_run.specs.declared.fault.RunFault.{RunFault}
use Rattle.haloop_run.specs.declared.fault.RunFault.TheVariants.{TaskFailed, Missed}
use Rattle.haloop_run.specs.declared.fault.CommandFault.{CommandFault}
use Rattle.haloop_run.specs.declared.fault.CommandFault.TheVariants.{Refused, Stopped, Failed}
use Rattle.haloop_run.specs.declared.run.Done.{Done}
use Rattle.haloop_run.specs.Words.{Asked, AskFor, IsUsage, words_of}
use Rattle.haloop_run.specs.Inputs.{ComesTo, Outcome, absent, bad_program, bad_schedule, bad_table, complete, not_built}
use Rattle.haloop_run.specs.Lines.{device_line, memory_line, not_built_line, outcome_line, status_of, usage_line}
use Rattle.haloop_run.specs.Outputs.{AreFirstOf, Leaves, LeavesPart, WritesParts, WritesSome}
use Rattle.cluster_core.specs.Deciding.{end_of}
use Rattle.haloop_run.proofs.RunLaws.{began_to, told_end}
use Rattle.haloop_run.specs.Statuses.{Answers, AnswersTo, AreTrue, BeganRun, DisksFailed, GainsDue, InputIs, IsDone, IsDoneBy, IsDue, IsMissed, IsRefusal, IsStatus, IsTaskFailed, LeavesSome, TellsEnd, of_device, of_done, of_input, of_memory, of_miss, of_task, of_usage}
use Rattle.haloop_run.specs.steps.Commands.{CameTo, IsRunInput, NoCommand, Performed, Said, SaidPart, done_line, done_status, line_of_stop, status_of_stop, text_of_done}
use Rattle.haloop_run.specs.steps.Inputs.{AtAbsent, Judged, outcome_of}

-- ---- the words ask for one thing

abbrev asked_of : List ℕ → Option (List ℕ) → List ℕ → Asked
asked_of p s o = record { program = p; schedule = s; out = o }

same_names : (p p' : List ℕ) (s s' : Option (List ℕ)) (o o' : List ℕ) → words_of p s o ≡ words_of p' s' o' → asked_of p s o ≡ asked_of p' s' o'
same_names p p' None None o o' e =
    let a : p ≡ p' = cc in
    let b : o ≡ o' = cc in
    ap (λ x. asked_of x None o) a ∙ ap (λ x. asked_of p' None x) b
same_names p p' None (Some s') o o' e = absurd (omega (arith, ap length e))
same_names p p' (Some s) None o o' e = absurd (omega (arith, ap length e))
same_names p p' (Some s) (Some s') o o' e =
    let a : p ≡ p' = cc in
    let b : s ≡ s' = cc in
    let d : o ≡ o' = cc in
    ap (λ x. asked_of x (Some s) o) a ∙ ap (λ x. asked_of p' (Some x) o) b ∙ ap (λ x. asked_of p' (Some s') x) d

pub asked_once : (words : List (List ℕ)) (a b : Asked) → AskFor words a → AskFor words b → a ≡ b
asked_once words a b g h = same_names a.program b.program a.schedule b.schedule a.out b.out (sym g.spelled ∙ h.spelled)

-- ---- statuses

-- a status that says neither that a device failed nor that memory ran out
abbrev pub IsSaid : ℕ → Type 0
IsSaid n = (n ≢ 8) × (n ≢ 10)

pub refusal_said : (n : ℕ) → IsRefusal n → IsSaid n
refusal_said n (inl e) = (omega arith, omega arith)
refusal_said n (inr (inl e)) = (omega arith, omega arith)
refusal_said n (inr (inr (inl e))) = (omega arith, omega arith)
refusal_said n (inr (inr (inr e))) = (omega arith, omega arith)

-- what is refused has the status of a refusal, or that of what is not built
refusal_of : (fault : InputFault) → IsRefusal (status_of (outcome_of fault)) ⊎ (status_of (outcome_of fault) ≡ 12)
refusal_of (Absent name) = inl (inr (inr (inr refl)))
refusal_of (BadProgram line what) = inl (inl refl)
refusal_of (BadSchedule line what) = inl (inr (inr (inl refl)))
refusal_of NotBuilt = inr refl
refusal_of (BadTable name what) = inl (inr (inl refl))

-- the statuses of inputs that are refused
abbrev pub IsOfInput : ℕ → Type 0
IsOfInput n = (2 ≤ n) × (n ≢ 6) × IsSaid n

of_refusal : (n : ℕ) → IsRefusal n ⊎ (n ≡ 12) → IsOfInput n
of_refusal n (inl (inl e)) = (omega arith, omega arith, (omega arith, omega arith))
of_refusal n (inl (inr (inl e))) = (omega arith, omega arith, (omega arith, omega arith))
of_refusal n (inl (inr (inr (inl e)))) = (omega arith, omega arith, (omega arith, omega arith))
of_refusal n (inl (inr (inr (inr e)))) = (omega arith, omega arith, (omega arith, omega arith))
of_refusal n (inr e) = (omega arith, omega arith, (omega arith, omega arith))

pub input_status : (fault : InputFault) → IsOfInput (status_of (outcome_of fault))
input_status fault = of_refusal (status_of (outcome_of fault)) (refusal_of fault)

-- the statuses of runs that are refused
stop_is : (fault : RunFault) → (status_of_stop fault ≡ 6) ⊎ (status_of_stop fault ≡ 12)
stop_is (TaskFailed task) = inl refl
stop_is Missed = inr refl

either : {A : Type 0} → A ⊎ A → A
either (inl a) = a
either (inr a) = a

whole : (texts : List (List ℕ)) → AreFirstOf texts texts
whole [] = tt
whole (t ∷ texts) = inl (refl, whole texts)

all_parts : (asked : Asked) (rounds : ℕ) (end : End) (before after : Option FileMap) → OnTold (Leaves asked rounds end) before after → OnTold (LeavesPart asked) before after
all_parts asked rounds end None after l = l
all_parts asked rounds end (Some before) None l = l
all_parts asked rounds end (Some before) (Some after) l =
    record { rounds = rounds; end = end; texts = l.texts; chained = l.chained; written = l.texts; first = whole l.texts; changed = l.changed }

some_parts : (asked : Asked) (rounds : ℕ) (end : End) (before after : Option FileMap) → OnTold (Leaves asked rounds end) before after → OnTold (WritesSome asked) before after
some_parts asked rounds end None after l = l
some_parts asked rounds end (Some before) None l = l
some_parts asked rounds end (Some before) (Some after) l = (l.texts, l.texts, whole l.texts, l.changed)

written_parts : (asked : Asked) (before after : Option FileMap) → OnTold (WritesParts asked) before after → OnTold (WritesSome asked) before after
written_parts asked None after w = w
written_parts asked (Some before) None w = w
written_parts asked (Some before) (Some after) w = (w.0, w.0, whole w.0, w.1)

-- what was gained whole was gained as a prefix
as_prefix : (line : List ℕ) (before after : Option (List ℕ)) → after ≡ option_map (λ held. held ++ line) before → AfterFailedAppend before line after
as_prefix line None after g = g
as_prefix line (Some held) after g = (length line, g ∙ ap (λ bytes. Some (held ++ bytes)) (sym (take-length line)))

-- ---- what is said on a sink

module _ {O : Type 0} (h : Sink O) (held holds : O) (result : ℕ) where
  abbrev Says : ℕ → List ℕ → Type 0
  Says n line = Said h n line held holds result

  -- want of memory while another line was made
  pub said_memory : (status : ℕ) (line : List ℕ) → Says 10 memory_line → Says status line
  said_memory status line (inl s) = inr (inr (s.0, inr (as_prefix memory_line (h.told held) (h.told holds) s.1)))
  said_memory status line (inr (inl s)) = inr (inl (s.0, s.1, inr (either s.2)))
  said_memory status line (inr (inr s)) = inr (inr (s.0, inr (either s.1)))

  pub said_status : (n : ℕ) (line : List ℕ) → Says n line → Answers n result
  said_status n line (inl s) = inl s.0
  said_status n line (inr (inl s)) = inr (inl s.0)
  said_status n line (inr (inr s)) = inr (inr s.0)

  -- a status that is neither 8 nor 10 is said whole
  pub said_whole : (n : ℕ) (line : List ℕ) → Says n line → result ≢ 8 → result ≢ 10 → (n ≡ result) × Gains h held line holds
  said_whole n line (inl s) a b = (sym s.0, s.1)
  said_whole n line (inr (inl s)) a b = absurd (a s.0)
  said_whole n line (inr (inr s)) a b = absurd (b s.0)

  -- a part of the line was said in any case
  pub said_part : (n : ℕ) (line : List ℕ) → Says n line → SaidPart h line held holds
  said_part n line (inl s) = inl (as_prefix line (h.told held) (h.told holds) s.1)
  said_part n line (inr (inl s)) = s.2
  said_part n line (inr (inr s)) = s.1

  -- a status 8 for what has another comes of the sink
  pub sink_failed : (n : ℕ) (line : List ℕ) → Says n line → result ≡ 8 → n ≢ 8 → WritesFailed h held holds
  sink_failed n line (inl s) e d = absurd (d (sym s.0 ∙ e))
  sink_failed n line (inr (inl s)) e d = s.1
  sink_failed n line (inr (inr s)) e d = absurd (omega (arith, s.0))

  pub is_status : (n : ℕ) (line : List ℕ) → IsStatus n → Says n line → IsStatus result
  is_status n line i (inl s) = subst IsStatus (sym s.0) i
  is_status n line i (inr (inl s)) = inr (inr (inr (inl s.0)))
  is_status n line i (inr (inr s)) = inr (inr (inr (inr (inl s.0))))

-- ---- what a command came to

stopped_status : (n : ℕ) → (n ≡ 6) ⊎ (n ≡ 12) → IsStatus n
stopped_status n (inl e) = inr (inr (inl e))
stopped_status n (inr e) = inr (inr (inr (inr (inr (inl e)))))

refused_status : (n : ℕ) → IsRefusal n ⊎ (n ≡ 12) → IsStatus n
refused_status n (inl i) = inr (inr (inr (inr (inr (inr i)))))
refused_status n (inr e) = inr (inr (inr (inr (inr (inl e)))))

pub command_status : (done : Result Done CommandFault) → IsStatus (done_status done)
command_status (Ok done) = inl refl
command_status (Err (Refused fault)) = refused_status (status_of (outcome_of fault)) (refusal_of fault)
command_status (Err (Stopped fault)) = stopped_status (status_of_stop fault) (stop_is fault)
command_status (Err (Failed (file.Device d))) = inr (inr (inr (inl refl)))
command_status (Err (Failed file.Memory)) = inr (inr (inr (inr (inl refl))))

module _ {F D O : Type 0} (g : Files F) (d : Disks D) (h : Sink O) (words : List (List ℕ)) (old new : F) (held holds : D) (before after : O) (result : ℕ) where
  abbrev pub Came : Type 0
  Came = Performed g d h words old new held holds before after result ⊎ NoCommand g h words old new held holds before after result

  abbrev CameSo : Asked → Result Done CommandFault → Type 0
  CameSo asked done = CameTo g d asked old new held holds done

  abbrev Spoken : ℕ → List ℕ → Type 0
  Spoken n line = Said h n line before after result

  abbrev Gained : List ℕ → Type 0
  Gained line = Gains h before line after

  -- what was said whole: a command came to something with this status, or the words are those of none
  pub data Told : Type 0 where
    of_command : (asked : Asked) → AskFor words asked → (done : Result Done CommandFault) → CameSo asked done → done_status done ≡ result → Gained (done_line done) → Told
    of_none : IsUsage words → g.told new ≡ g.told old → holds ≡ held → 1 ≡ result → Gained usage_line → Told

  told_whole : Came → IsSaid result → Told
  told_whole (inl p) s =
      let w = said_whole h before after result (done_status p.done) (done_line p.done) p.said s.0 s.1 in of_command p.asked p.ask_for p.done p.came w.0 w.1
  told_whole (inr n) s =
      let w = said_whole h before after result 1 usage_line n.3 s.0 s.1 in of_none n.0 n.1 n.2 w.0 w.1

  pub status : Came → IsStatus result
  status (inl p) = is_status h before after result (done_status p.done) (done_line p.done) (command_status p.done) p.said
  status (inr n) = is_status h before after result 1 usage_line (inr (inl refl)) n.3

  -- ---- 0

  abbrev Finishing : Type 0
  Finishing = (asked : Asked) × AskFor words asked × (line : List ℕ) × IsDone g d asked old new held holds line × Gained line

  done_at : Told → result ≡ 0 → Finishing
  done_at (of_command asked a (Ok done) c e l) r = (asked, a, text_of_done done, c.0, l)
  done_at (of_command asked a (Err (Refused fault)) c e l) r = absurd (omega (arith, (input_status fault).0))
  done_at (of_command asked a (Err (Stopped fault)) c e l) r = absurd (not_stopped (stop_is fault))
    where
      not_stopped : (status_of_stop fault ≡ 6) ⊎ (status_of_stop fault ≡ 12) → ⊥
      not_stopped (inl x) = omega (arith, x, e, r)
      not_stopped (inr x) = omega (arith, x, e, r)
  done_at (of_command asked a (Err (Failed (file.Device x))) c e l) r = absurd (omega arith)
  done_at (of_command asked a (Err (Failed file.Memory)) c e l) r = absurd (omega arith)
  done_at (of_none u f k e l) r = absurd (omega arith)

  pub done : Came → result ≡ 0 → Finishing
  done c e = done_at (told_whole c (omega arith, omega arith)) e

  -- the round in which the chain ended, how, and the line that tells it
  pub record Ended (asked : Asked) : Type 0 where
    pub rounds : ℕ
    pub end : End
    pub leaves : Changes g (Leaves asked rounds end) old new
    pub line : List ℕ
    pub tells : TellsEnd asked.schedule rounds end line
    pub gained : Gained line

  ended_by : AreTrue d held → (asked : Asked) (o : Option (List ℕ)) → asked.schedule ≡ o → (line : List ℕ) → IsDoneBy g d o asked old new held holds line → Gained line → Ended asked
  ended_by t asked None s line i l = record { rounds = i.rounds; end = i.end; leaves = i.leaves; line = line; tells = subst (λ o. TellsEnd o i.rounds i.end line) (sym s) i.line_is; gained = l }
  ended_by t asked (Some name) s line i l = record {
    rounds = i.to.last.round;
    end = end_of i.word;
    leaves = i.chain t;
    line = line;
    tells = subst (λ o. TellsEnd o i.to.last.round (end_of i.word) line) (sym s) (told_end i.word i.to.last.round i.before_end i.to.last.journal line i.ended i.line_is);
    gained = l;
  }

  pub headline : Came → result ≡ 0 → AreTrue d held → (asked : Asked) × AskFor words asked × (rounds : ℕ) × (end : End)
      × Changes g (Leaves asked rounds end) old new × (line : List ℕ) × TellsEnd asked.schedule rounds end line × Gained line
  headline c e t =
      let f = done c e in
      let h = ended_by t f.0 f.0.schedule refl f.2 f.3 f.4 in
      (f.0, f.1, h.rounds, h.end, h.leaves, h.line, h.tells, h.gained)

  -- ---- 1

  pub usage : Came → result ≡ 1 → IsUsage words × Gained usage_line
  usage c r = usage_at (told_whole c (omega arith, omega arith))
    where
      usage_at : Told → IsUsage words × Gained usage_line
      usage_at (of_command asked a (Ok done) c e l) = absurd (omega arith)
      usage_at (of_command asked a (Err (Refused fault)) c e l) = absurd (omega (arith, (input_status fault).0))
      usage_at (of_command asked a (Err (Stopped fault)) c e l) = absurd (not_stopped (stop_is fault))
        where
          not_stopped : (status_of_stop fault ≡ 6) ⊎ (status_of_stop fault ≡ 12) → ⊥
          not_stopped (inl x) = omega (arith, x, e, r)
          not_stopped (inr x) = omega (arith, x, e, r)
      usage_at (of_command asked a (Err (Failed (file.Device x))) c e l) = absurd (omega arith)
      usage_at (of_command asked a (Err (Failed file.Memory)) c e l) = absurd (omega arith)
      usage_at (of_none u f k e l) = (u, l)

  -- ---- 2, 3, 4 and 11

  -- what the input is judged to be, it is
  input_is : (asked : Asked) (it : Outcome) → AskFor words asked → ((told : FileMap) → Tells g old told → Judged asked told it) → InputIs g words old it
  input_is asked it a j = inl (asked, a, λ told t. (j told t).comes)

  -- nothing is changed, and this is wrong with the input
  pub record Refusing : Type 0 where
    pub it : Outcome
    pub status_is : status_of it ≡ result
    pub input : InputIs g words old it
    pub gained : Gained (outcome_line it)
    pub no_calls : holds ≡ held
    pub absents : result ≡ 11 → AbsentsRose g old new

  pub absent_at : (fault : InputFault) → status_of (outcome_of fault) ≡ 11 → AtAbsent fault (AbsentsRose g old new) → AbsentsRose g old new
  absent_at (Absent name) e a = a
  absent_at (BadProgram line what) e a = absurd (omega arith)
  absent_at (BadSchedule line what) e a = absurd (omega arith)
  absent_at NotBuilt e a = absurd (omega arith)
  absent_at (BadTable name what) e a = absurd (omega arith)

  refusing : (asked : Asked) → AskFor words asked → (fault : InputFault) → CameSo asked (Err (Refused fault)) → status_of (outcome_of fault) ≡ result → Gained (outcome_line (outcome_of fault)) → Refusing
  refusing asked a fault c e l =
      record { it = outcome_of fault; status_is = e; input = input_is asked (outcome_of fault) a c.2; gained = l; no_calls = c.1; absents = λ r. absent_at fault (e ∙ r) c.3 }

  no_refusal : (n : ℕ) → IsRefusal n → (n ≡ 0) ⊎ (n ≡ 1) ⊎ (n ≡ 6) ⊎ (n ≡ 12) → ⊥
  no_refusal n (inl r) (inl e) = omega arith
  no_refusal n (inl r) (inr (inl e)) = omega arith
  no_refusal n (inl r) (inr (inr (inl e))) = omega arith
  no_refusal n (inl r) (inr (inr (inr e))) = omega arith
  no_refusal n (inr (inl r)) (inl e) = omega arith
  no_refusal n (inr (inl r)) (inr (inl e)) = omega arith
  no_refusal n (inr (inl r)) (inr (inr (inl e))) = omega arith
  no_refusal n (inr (inl r)) (inr (inr (inr e))) = omega arith
  no_refusal n (inr (inr (inl r))) (inl e) = omega arith
  no_refusal n (inr (inr (inl r))) (inr (inl e)) = omega arith
  no_refusal n (inr (inr (inl r))) (inr (inr (inl e))) = omega arith
  no_refusal n (inr (inr (inl r))) (inr (inr (inr e))) = omega arith
  no_refusal n (inr (inr (inr r))) (inl e) = omega arith
  no_refusal n (inr (inr (inr r))) (inr (inl e)) = omega arith
  no_refusal n (inr (inr (inr r))) (inr (inr (inl e))) = omega arith
  no_refusal n (inr (inr (inr r))) (inr (inr (inr e))) = omega arith

  refused_at : Told → IsRefusal result → Refusing
  refused_at (of_command asked a (Ok done) c e l) r = absurd (no_refusal result r (inl (sym e)))
  refused_at (of_command asked a (Err (Refused fault)) c e l) r = refusing asked a fault c e l
  refused_at (of_command asked a (Err (Stopped fault)) c e l) r = absurd (no_refusal result r (stopped (stop_is fault)))
    where
      stopped : (status_of_stop fault ≡ 6) ⊎ (status_of_stop fault ≡ 12) → (result ≡ 0) ⊎ (result ≡ 1) ⊎ (result ≡ 6) ⊎ (result ≡ 12)
      stopped (inl x) = inr (inr (inl (sym e ∙ x)))
      stopped (inr x) = inr (inr (inr (sym e ∙ x)))
  refused_at (of_command asked a (Err (Failed (file.Device x))) c e l) r = absurd ((refusal_said result r).0 (sym e))
  refused_at (of_command asked a (Err (Failed file.Memory)) c e l) r = absurd ((refusal_said result r).1 (sym e))
  refused_at (of_none u f k e l) r = absurd (no_refusal result r (inr (inl (sym e))))

  refused_by : Came → IsRefusal result → Refusing
  refused_by c r = refused_at (told_whole c (refusal_said result r)) r

  pub refused : Came → IsRefusal result → (it : Outcome) × (status_of it ≡ result) × InputIs g words old it × Gained (outcome_line it)
  refused c r = let b = refused_by c r in (b.it, b.status_is, b.input, b.gained)

  pub absents_rose : Came → result ≡ 11 → AbsentsRose g old new
  absents_rose c e = (refused_by c (inr (inr (inr e)))).absents e

  pub no_calls : Came → (result ≡ 1) ⊎ IsRefusal result → holds ≡ held
  no_calls c (inr r) = (refused_by c r).no_calls
  no_calls c (inl r) = none_at (told_whole c (omega arith, omega arith))
    where
      none_at : Told → holds ≡ held
      none_at (of_command asked a (Ok done) c e l) = absurd (omega arith)
      none_at (of_command asked a (Err (Refused fault)) c e l) = c.1
      none_at (of_command asked a (Err (Stopped fault)) c e l) = absurd (not_stopped (stop_is fault))
        where
          not_stopped : (status_of_stop fault ≡ 6) ⊎ (status_of_stop fault ≡ 12) → ⊥
          not_stopped (inl x) = omega (arith, x, e, r)
          not_stopped (inr x) = omega (arith, x, e, r)
      none_at (of_command asked a (Err (Failed (file.Device x))) c e l) = absurd (omega arith)
      none_at (of_command asked a (Err (Failed file.Memory)) c e l) = absurd (omega arith)
      none_at (of_none u f k e l) = k

  -- ---- 6 and 12

  abbrev Failing : Type 0
  Failing = (asked : Asked) × AskFor words asked × (line : List ℕ) × IsTaskFailed g d asked old held holds line × Gained line

  pub task_failed : Came → result ≡ 6 → Failing
  task_failed c r = failed_at (told_whole c (omega arith, omega arith))
    where
      failed_at : Told → Failing
      failed_at (of_command asked a (Ok done) c e l) = absurd (omega arith)
      failed_at (of_command asked a (Err (Refused fault)) c e l) = absurd ((input_status fault).1 (e ∙ r))
      failed_at (of_command asked a (Err (Stopped (TaskFailed task))) c e l) = (asked, a, line_of_stop (TaskFailed task), c.1, l)
      failed_at (of_command asked a (Err (Stopped Missed)) c e l) = absurd (omega arith)
      failed_at (of_command asked a (Err (Failed (file.Device x))) c e l) = absurd (omega arith)
      failed_at (of_command asked a (Err (Failed file.Memory)) c e l) = absurd (omega arith)
      failed_at (of_none u f k e l) = absurd (omega arith)

  abbrev NotBuiltYet : Type 0
  NotBuiltYet = ((holds ≡ held) × InputIs g words old not_built × Gained not_built_line)
      ⊎ ((asked : Asked) × AskFor words asked × (line : List ℕ) × IsMissed g d asked old held holds line × Gained line)

  pub not_built_yet : Came → result ≡ 12 → NotBuiltYet
  not_built_yet c r = at (told_whole c (omega arith, omega arith))
    where
      of_fault : (asked : Asked) → AskFor words asked → (fault : InputFault) → CameSo asked (Err (Refused fault)) → status_of (outcome_of fault) ≡ result → Gained (outcome_line (outcome_of fault)) → NotBuiltYet
      of_fault asked a (Absent name) c e l = absurd (omega arith)
      of_fault asked a (BadProgram line what) c e l = absurd (omega arith)
      of_fault asked a (BadSchedule line what) c e l = absurd (omega arith)
      of_fault asked a NotBuilt c e l = inl (c.1, input_is asked not_built a c.2, l)
      of_fault asked a (BadTable name what) c e l = absurd (omega arith)

      at : Told → NotBuiltYet
      at (of_command asked a (Ok done) c e l) = absurd (omega arith)
      at (of_command asked a (Err (Refused fault)) c e l) = of_fault asked a fault c e l
      at (of_command asked a (Err (Stopped (TaskFailed task))) c e l) = absurd (omega arith)
      at (of_command asked a (Err (Stopped Missed)) c e l) = inr (asked, a, line_of_stop Missed, c.1, l)
      at (of_command asked a (Err (Failed (file.Device x))) c e l) = absurd (omega arith)
      at (of_command asked a (Err (Failed file.Memory)) c e l) = absurd (omega arith)
      at (of_none u f k e l) = absurd (omega arith)

  not_done : (result ≡ 1) ⊎ (result ≡ 6) ⊎ (result ≡ 12) ⊎ IsRefusal result → IsSaid result × (result ≢ 0)
  not_done (inl e) = ((omega arith, omega arith), omega arith)
  not_done (inr (inl e)) = ((omega arith, omega arith), omega arith)
  not_done (inr (inr (inl e))) = ((omega arith, omega arith), omega arith)
  not_done (inr (inr (inr i))) = (refusal_said result i, λ e. no_refusal result i (inl e))

  pub kept : Came → (result ≡ 1) ⊎ (result ≡ 6) ⊎ (result ≡ 12) ⊎ IsRefusal result → g.told new ≡ g.told old
  kept c r = let n = not_done r in kept_at n (told_whole c n.0)
    where
      kept_at : IsSaid result × (result ≢ 0) → Told → g.told new ≡ g.told old
      kept_at n (of_command asked a (Ok done) c e l) = absurd (n.1 (sym e))
      kept_at n (of_command asked a (Err (Refused fault)) c e l) = c.0
      kept_at n (of_command asked a (Err (Stopped fault)) c e l) = c.0
      kept_at n (of_command asked a (Err (Failed (file.Device x))) c e l) = absurd (n.0.0 (sym e))
      kept_at n (of_command asked a (Err (Failed file.Memory)) c e l) = absurd (n.0.1 (sym e))
      kept_at n (of_none u f k e l) = f

  -- ---- 8 and 10

  abbrev Due : List ℕ → Type 0
  Due line = IsDue g d words old new held holds line

  pub due_part : (line : List ℕ) → Due line → SaidPart h line before after → GainsDue g d h words old new held holds before after
  due_part line u (inl p) = (line, u, p)
  due_part line u (inr p) = (memory_line, of_memory refl, p)

  due_line : (asked : Asked) → AskFor words asked → (done : Result Done CommandFault) → CameSo asked done → Due (done_line done)
  due_line asked a (Ok done) c = of_done asked a c.0
  due_line asked a (Err (Refused fault)) c = of_input (outcome_of fault) (input_is asked (outcome_of fault) a c.2) refl
  due_line asked a (Err (Stopped (TaskFailed task))) c = of_task asked a c.1
  due_line asked a (Err (Stopped Missed)) c = of_miss asked a c.1
  due_line asked a (Err (Failed (file.Device x))) c = of_device c.0 refl
  due_line asked a (Err (Failed file.Memory)) c = of_memory refl

  -- whatever was answered, the sink gained a prefix of a line that is due
  pub said_due : Came → GainsDue g d h words old new held holds before after
  said_due (inl p) = due_part (done_line p.done) (due_line p.asked p.ask_for p.done p.came) (said_part h before after result (done_status p.done) (done_line p.done) p.said)
  said_due (inr n) = due_part usage_line (of_usage n.0 refl) (said_part h before after result 1 usage_line n.3)

  abbrev CallsFailed : Type 0
  CallsFailed = FaultsRose g old new ⊎ DisksFailed d held holds

  -- a status 8 comes of the files or the disks, and then its line was said whole, or of the sink
  device_at : (asked : Asked) (done : Result Done CommandFault) → CameSo asked done → Spoken (done_status done) (done_line done) → result ≡ 8 → (CallsFailed × Gained device_line) ⊎ WritesFailed h before after
  device_at asked (Ok done) c s e = inr (sink_failed h before after result 0 (text_of_done done) s e (omega arith))
  device_at asked (Err (Refused fault)) c s e = inr (sink_failed h before after result (status_of (outcome_of fault)) (outcome_line (outcome_of fault)) s e (input_status fault).2.0)
  device_at asked (Err (Stopped (TaskFailed task))) c s e = inr (sink_failed h before after result 6 (line_of_stop (TaskFailed task)) s e (omega arith))
  device_at asked (Err (Stopped Missed)) c s e = inr (sink_failed h before after result 12 (line_of_stop Missed) s e (omega arith))
  device_at asked (Err (Failed (file.Device x))) c (inl s) e = inl (c.0, s.1)
  device_at asked (Err (Failed (file.Device x))) c (inr (inl s)) e = inr s.1
  device_at asked (Err (Failed (file.Device x))) c (inr (inr s)) e = absurd (omega (arith, s.0))
  device_at asked (Err (Failed file.Memory)) c s e = inr (sink_failed h before after result 10 memory_line s e (omega arith))

  device_of : Came → result ≡ 8 → (CallsFailed × Gained device_line) ⊎ WritesFailed h before after
  device_of (inl p) e = device_at p.asked p.done p.came p.said e
  device_of (inr n) e = inr (sink_failed h before after result 1 usage_line n.3 e (omega arith))

  pub rose : (CallsFailed × Gained device_line) ⊎ WritesFailed h before after → FaultsRose g old new ⊎ DisksFailed d held holds ⊎ WritesFailed h before after
  rose (inl (inl f, l)) = inl f
  rose (inl (inr f, l)) = inr (inl f)
  rose (inr w) = inr (inr w)

  pub device : Came → result ≡ 8 → FaultsRose g old new ⊎ DisksFailed d held holds ⊎ WritesFailed h before after
  device c e = rose (device_of c e)

  pub with_due : GainsDue g d h words old new held holds before after → (CallsFailed × Gained device_line) ⊎ WritesFailed h before after → (CallsFailed × Gained device_line) ⊎ (WritesFailed h before after × GainsDue g d h words old new held holds before after)
  with_due p (inl x) = inl x
  with_due p (inr w) = inr (w, p)

  pub device_said : Came → result ≡ 8 → (CallsFailed × Gained device_line) ⊎ (WritesFailed h before after × GainsDue g d h words old new held holds before after)
  device_said c e = with_due (said_due c) (device_of c e)

  abbrev LeftSome : Type 0
  LeftSome = (g.told new ≡ g.told old) ⊎ ((asked : Asked) × AskFor words asked × LeavesSome g d asked old new held)

  done_some : (asked : Asked) (line : List ℕ) (o : Option (List ℕ)) → asked.schedule ≡ o → IsDoneBy g d o asked old new held holds line → LeavesSome g d asked old new held
  done_some asked line None s i = inr (some_parts asked i.rounds i.end (g.told old) (g.told new) i.leaves, λ x. all_parts asked i.rounds i.end (g.told old) (g.told new) i.leaves)
  done_some asked line (Some name) s i = inr (written_parts asked (g.told old) (g.told new) i.parts, by_chain)
    where
      none : (o : Option (List ℕ)) → o ≡ Some name → o ≡ None → ⊥
      none o e f = cc

      by_chain : (asked.schedule ≡ None) ⊎ AreTrue d held → Changes g (LeavesPart asked) old new
      by_chain (inl e) = absurd (none asked.schedule s e)
      by_chain (inr t) = all_parts asked i.to.last.round (end_of i.word) (g.told old) (g.told new) (i.chain t)

  left_at : (asked : Asked) → AskFor words asked → (done : Result Done CommandFault) → CameSo asked done → LeftSome
  left_at asked a (Ok done) c = inr (asked, a, done_some asked (text_of_done done) asked.schedule refl c.0)
  left_at asked a (Err (Refused fault)) c = inl c.0
  left_at asked a (Err (Stopped fault)) c = inl c.0
  left_at asked a (Err (Failed fault)) c = inr (asked, a, c.1)

  -- whatever a call came to, it left the files as they were or the first of the part files
  pub left : Came → LeftSome
  left (inl p) = left_at p.asked p.ask_for p.done p.came
  left (inr n) = inl n.1

  abbrev BeganSome : Type 0
  BeganSome = (holds ≡ held) ⊎ ((asked : Asked) × AskFor words asked × BeganRun g d asked old held holds)

  -- the calls of a run, whatever it came to, are the first of a run
  done_began : (asked : Asked) (line : List ℕ) (o : Option (List ℕ)) → IsDoneBy g d o asked old new held holds line → BeganRun g d asked old held holds
  done_began asked line None i = inl i.no_calls
  done_began asked line (Some name) i = inr (began_to g d asked old held holds i.to)

  began_at : (asked : Asked) → (done : Result Done CommandFault) → CameSo asked done → BeganRun g d asked old held holds
  began_at asked (Ok done) c = done_began asked (text_of_done done) asked.schedule c.0
  began_at asked (Err (Refused fault)) c = inl c.1
  began_at asked (Err (Stopped (TaskFailed task))) c = inr (began_to g d asked old held holds c.1.to)
  began_at asked (Err (Stopped Missed)) c = inr (began_to g d asked old held holds c.1.to)
  began_at asked (Err (Failed fault)) c = c.2

  pub began : Came → BeganSome
  began (inl p) = inr (p.asked, p.ask_for, began_at p.asked p.done p.came)
  began (inr n) = inl n.2

  -- over sound disks no read missed, since none does in a run
  pub unmissed : Came → d.sound held → IsSome (d.told held) → d.misses holds ≡ d.misses held
  unmissed came sound told = elim (began came) [
    | inl same ↦ ap d.misses same
    | inr it ↦ elim it.2 [ inl same ↦ ap d.misses same | inr to ↦ to.ran.unmissed sound told ]
  ]

  -- ---- the other direction

  -- what is answered to an input by the status of all that it comes to
  answers_to : (it : Outcome) → Answers (status_of it) result → AnswersTo it result
  answers_to (complete program None tables) a = a
  answers_to (complete program (Some schedule) tables) a = inr (inr a)
  answers_to (absent name) a = a
  answers_to (bad_program line what) a = a
  answers_to (bad_schedule line what) a = a
  answers_to not_built a = a
  answers_to (bad_table name what) a = a

  run_answers : (it : Outcome) → IsRunInput it → (result ≡ 6) ⊎ (result ≡ 12) ⊎ Answers 0 result → AnswersTo it result
  run_answers (complete program None tables) i a = absurd i
  run_answers (complete program (Some schedule) tables) i a = a
  run_answers (absent name) i a = absurd i
  run_answers (bad_program line what) i a = absurd i
  run_answers (bad_schedule line what) i a = absurd i
  run_answers not_built i a = absurd i
  run_answers (bad_table name what) i a = absurd i

  stop_answers : (fault : RunFault) → Spoken (status_of_stop fault) (line_of_stop fault) → (result ≡ 6) ⊎ (result ≡ 12) ⊎ Answers 0 result
  stop_answers (TaskFailed task) (inl s) = inl s.0
  stop_answers Missed (inl s) = inr (inl s.0)
  stop_answers fault (inr (inl s)) = inr (inr (inr (inl s.0)))
  stop_answers fault (inr (inr s)) = inr (inr (inr (inr s.0)))

  failed : (m n : ℕ) (line : List ℕ) → Spoken n line → (n ≡ 8) ⊎ (n ≡ 10) → Answers m result
  failed m n line (inl s) (inl f) = inr (inl (s.0 ∙ f))
  failed m n line (inl s) (inr f) = inr (inr (s.0 ∙ f))
  failed m n line (inr (inl s)) f = inr (inl s.0)
  failed m n line (inr (inr s)) f = inr (inr s.0)

  -- the status of what the input comes to is the only one
  as_status : (m n : ℕ) (line : List ℕ) → n ≡ m → Spoken m line → Answers n result
  as_status m n line e s = subst (λ (k : ℕ). Answers k result) (sym e) (said_status h before after result m line s)

  answered_at : (asked : Asked) (done : Result Done CommandFault) → CameSo asked done → Spoken (done_status done) (done_line done) → (told : FileMap) → Tells g old told → (it : Outcome) → ComesTo told asked it → AnswersTo it result
  answered_at asked (Ok done) c s told t it i = answers_to it (as_status 0 (status_of it) (text_of_done done) (c.1 told t it i) s)
  answered_at asked (Err (Refused fault)) c s told t it i = answers_to it (as_status (status_of (outcome_of fault)) (status_of it) (outcome_line (outcome_of fault)) ((c.2 told t).only it i) s)
  answered_at asked (Err (Stopped fault)) c s told t it i = run_answers it (c.2 told t it i) (stop_answers fault s)
  answered_at asked (Err (Failed (file.Device x))) c s told t it i = answers_to it (failed (status_of it) 8 device_line s (inl refl))
  answered_at asked (Err (Failed file.Memory)) c s told t it i = answers_to it (failed (status_of it) 10 memory_line s (inr refl))

  pub answered : Came → (told : FileMap) → Tells g old told → (asked : Asked) (it : Outcome) → AskFor words asked → ComesTo told asked it → AnswersTo it result
  answered (inl p) told t asked it a i =
      answered_at p.asked p.done p.came p.said told t it (subst (λ (x : Asked). ComesTo told x it) (asked_once words asked p.asked a p.ask_for) i)
  answered (inr n) told t asked it a i = absurd (n.0.0 asked a)

  pub usage_answered : Came → IsUsage words → Answers 1 result
  usage_answered (inl p) u = absurd (u.0 p.asked p.ask_for)
  usage_answered (inr n) u = said_status h before after result 1 usage_line n.3
